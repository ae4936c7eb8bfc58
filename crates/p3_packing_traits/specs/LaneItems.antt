-- Iterators that draw the items of a source and answer nothing more once it has ended.
use Rattle.std.specs.Prelude.{◌≡◌, Bool, true, false, List, [], ◌∷◌, Option, None, MatchOption, All}
use Rattle.std.specs.Bool.{MatchBool}
use Rattle.p3_extension_traits.specs.Streams.{TakesFirst}

-- A call at a source s with a list held, which leaves the source at t and `held'` held. `over` says that the source has
-- ended, before the call and after it. Before the end the call draws items and gives what their lists hold, and the source
-- has ended where it gives `None`. After the end it gives `None`, and the source is not asked.
abbrev pub TakesFirstUntilEnd : {S F B : Type 0} → (S → Option F → S → Type 0) → (F → List B) → Bool → S → List B → Option B → Bool → S → List B → Type 0
TakesFirstUntilEnd steps parts over s held r over' t held' =
    MatchBool over ((r ≡ None) × (over' ≡ true) × (t ≡ s))
    (TakesFirst steps parts s held r t held' × MatchOption r (over' ≡ true) (λ _. over' ≡ false))

-- calls from s, in turn, gave these answers, `None` among them, and left t
abbrev pub Answers : {S A : Type 0} → (S → Option A → S → Type 0) → S → List (Option A) → S → Type 0
Answers steps s [] t = s ≡ t
Answers {S} steps s (r ∷ rs) t = (u : S) × steps s r u × Answers steps u rs t

-- after a call that gave `None`, whatever the calls from s before it gave, each later call is allowed and gives `None`
pub record EndsForGood {S A : Type 0} (can : S → Type 0) (steps : S → Option A → S → Type 0) (s : S) : Type 0 where
  pub callable : (before after : List (Option A)) (t u v : S) → Answers steps s before t → steps t None u → Answers steps u after v → can v
  pub nothing_more : (before after : List (Option A)) (t u v : S) → Answers steps s before t → steps t None u → Answers steps u after v → All (λ r. r ≡ None) after
