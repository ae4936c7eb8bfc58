-- Streams of bytes and words, and what an iterator that gathers the items of another in groups does.
use Rattle.std.specs.Prelude.{◌≡◌, ◌<◌, ◌+◌, ◌-◌, ◌*◌, ◌/◌, ◌⊎◌, ℕ, Bool, true, List, [], ◌∷◌, ◌++◌, length, take, drop, map, replicate, nat_lt, Option, None, Some, MatchOption, OnSome, All, slice_get, slice_index}
use Rattle.std.specs.Bool.{MatchBool}
use Rattle.std.specs.List.{flat_map, filter_map}
use Rattle.std.specs.Iterator.{Count, IsFinite, size, Yields, YieldsThen, Drains}
use Rattle.std.proofs.lemmas.Iterator.{YieldsList}
use Rattle.p3_theory.specs.Polynomials.Polynomial.{tabulate}

-- every run of calls from s gives exactly the items xs, in order, and then `None`
abbrev pub YieldsExactly : {S A : Type 0} → (S → Option A → S → Type 0) → S → List A → Type 0
YieldsExactly steps s xs = YieldsList steps (λ x. x) s xs

-- there is a bound on what is left, and it is n
abbrev pub Exactly : Count → ℕ → Type 0
Exactly c n = IsFinite c × (size c ≡ n)

-- the bytes of the elements, one element after the other
abbrev pub byte_stream : {A : Type 0} → (A → List ℕ) → List A → List ℕ
byte_stream bytes xs = flat_map bytes xs

-- the number of some bytes, the lowest first
abbrev pub little_endian : List ℕ → ℕ
little_endian [] = 0
little_endian (b ∷ bs) = b + 256 * little_endian bs

-- the list, filled up to n items by copies of p
abbrev pub padded : {A : Type 0} → ℕ → A → List A → List A
padded n p xs = xs ++ replicate (n - length xs) p

-- how many groups of n items hold so many items
abbrev pub group_count : ℕ → ℕ → ℕ
group_count n items = (items + (n - 1)) / n

-- group i of n items: those from index n * i on, filled up by copies of p
abbrev pub group : {A : Type 0} → ℕ → A → List A → ℕ → List A
group n p xs i = padded n p (take n (drop (n * i) xs))

-- the items in groups of n, the last group filled up by copies of p
abbrev pub groups : {A : Type 0} → ℕ → A → List A → List (List A)
groups n p xs = tabulate (group_count n (length xs)) (group n p xs)

-- the words of n bytes that a stream of bytes makes, the lowest byte first, the last word filled up by zeros
abbrev pub word_stream : ℕ → List ℕ → List ℕ
word_stream n bs = map little_endian (groups n 0 bs)

-- a group of items, filled up, and `None` where there is no item
abbrev pub group_of : {A : Type 0} → ℕ → A → List A → Option (List A)
group_of n p [] = None
group_of n p (x ∷ xs) = Some (padded n p (x ∷ xs))

-- the calls from s gave n items, or fewer and then `None`: the items are xs, and t is the state after them
abbrev pub TakesUpTo : {S A : Type 0} → (S → Option A → S → Type 0) → ℕ → S → List A → S → Type 0
TakesUpTo steps n s xs t = ((length xs ≡ n) × Yields steps s xs t) ⊎ ((length xs < n) × YieldsThen steps s xs None t)

-- calls from s gave fewer than n items and then `None`, or n items and then another
abbrev pub GivesOtherCount : {S A : Type 0} → (S → Option A → S → Type 0) → ℕ → S → Type 0
GivesOtherCount {S} {A} steps n s = (xs : List A) × (r : Option A) × (u : S) × YieldsThen steps s xs r u × MatchOption r (length xs < n) (λ _. length xs ≡ n)

-- a call that asks s for n items and no more: it answers a value of whose items s gave just these, and `None` where another count came
abbrev pub TakesExactly : {S A V : Type 0} → (S → Option A → S → Type 0) → ℕ → (V → List A) → S → Option V → Type 0
TakesExactly steps n items s r = MatchOption r (GivesOtherCount steps n s) (λ x. Drains steps s (items x))

-- A call that gathers up to n items of a source s: it answers r, leaves the source at t, and `over` says that the
-- source has ended, before the call and after it. A source that has ended is not asked again.
abbrev pub GathersGroup : {S A : Type 0} → (S → Option A → S → Type 0) → ℕ → A → Bool → S → Option (List A) → Bool → S → Type 0
GathersGroup {A = A} steps n p over s r over' t =
    MatchBool over ((r ≡ None) × (over' ≡ true) × (t ≡ s))
    ((xs : List A) × (r ≡ group_of n p xs) × (over' ≡ nat_lt (length xs) n) × TakesUpTo steps n s xs t)

-- A call at a source s with a list held, which draws items and leaves the source at t: it answers the first of what is
-- held and of the drawn items' lists, and `Held` holds of the rest. It answers `None` where the source has ended and none
-- of these has an entry, and then nothing is held.
abbrev pub Draws : {S F B : Type 0} → (S → Option F → S → Type 0) → (F → List B) → S → List B → Option B → S → (List B → Type 0) → Type 0
Draws {F = F} {B = B} steps parts s held r t Held = MatchOption r
    ((xs : List F) × YieldsThen steps s xs None t × (held ++ flat_map parts xs ≡ []) × Held [])
    (λ b. (xs : List F) × (rest : List B) × Yields steps s xs t × (held ++ flat_map parts xs ≡ b ∷ rest) × Held rest)

-- P holds of whatever calls from s give until the end, and of some items that the source at t gives until its end
pub record DrawnFrom {S T A B : Type 0} (steps : S → Option A → S → Type 0) (source : T → Option B → T → Type 0) (s : S) (t : T) (P : List A → List B → Type 0) : Type 0 where
  pub runs : (ys : List A) → Drains steps s ys → (xs : List B) × Drains source t xs × P ys xs

-- the reader in hand gives exactly these bytes; where there is none, there is no byte
abbrev pub HoldsBytes : {J : Type 0} → (J → Option ℕ → J → Type 0) → Option J → List ℕ → Type 0
HoldsBytes inner reader held = MatchOption reader (held ≡ []) (λ j. YieldsExactly inner j held)

-- what the reader in hand answered, if there was one, and that it is kept where it gave a byte
abbrev pub InHand : {J : Type 0} → (J → Option ℕ → J → Type 0) → Option J → Option ℕ → Option J → Type 0
InHand {J} inner reader r reader' = MatchOption reader (r ≡ None) (λ j. (k : J) × inner j r k × OnSome r (reader' ≡ Some k))

-- a call of a byte stream with a source s and a reader in hand, which leaves t and `reader'`: it draws elements, and what it gives is their bytes
abbrev pub TakesByte : {S J F : Type 0} → (S → Option F → S → Type 0) → (J → Option ℕ → J → Type 0) → (F → List ℕ) → S → Option J → Option ℕ → S → Option J → Type 0
TakesByte steps inner bytes s reader r t reader' = (held : List ℕ) → HoldsBytes inner reader held → Draws steps bytes s held r t (HoldsBytes inner reader')

-- a call that answers what f makes of a group
abbrev pub ReadsGroup : {T A B : Type 0} → (List A → B) → (T → Option (List A) → T → Type 0) → T → Option B → T → Type 0
ReadsGroup {A = A} f turn s r t = MatchOption r (turn s None t) (λ w. (xs : List A) × turn s (Some xs) t × (w ≡ f xs))

-- ---- streams side by side

-- the entries at index j of the rows
abbrev pub column : {A : Type 0} → ℕ → List (List A) → List A
column j rows = filter_map (λ row. slice_get row j) rows

-- every row has n entries
abbrev pub AllOfLength : {A : Type 0} → ℕ → List (List A) → Type 0
AllOfLength n rows = All (λ row. length row ≡ n) rows

-- so many rows of n entries, whose entries at index j are the stream j
pub record AreParallel {A : Type 0} (n count : ℕ) (stream : ℕ → List A) (rows : List (List A)) : Type 0 where
  pub counted : length rows ≡ count
  pub widths : AllOfLength n rows
  pub columns : (j : ℕ) → j < n → column j rows ≡ stream j

-- byte i of each value of a row, for each i below n
abbrev pub row_bytes : {A : Type 0} → (A → List ℕ) → ℕ → List A → List (List ℕ)
row_bytes bytes n row = tabulate n (λ i. map (λ x. slice_index (bytes x) i) row)

-- the words that the bytes at each entry of some rows of n bytes make, the lowest byte first
abbrev pub row_words : ℕ → List (List ℕ) → List ℕ
row_words n rows = tabulate n (λ j. little_endian (map (λ row. slice_index row j) rows))

-- a call with a source s and a list held, which leaves t and `held'`: it draws items, and what it gives is their lists
abbrev pub TakesFirst : {S F B : Type 0} → (S → Option F → S → Type 0) → (F → List B) → S → List B → Option B → S → List B → Type 0
TakesFirst steps parts s held r t held' = Draws steps parts s held r t (λ rest. held' ≡ rest)

-- what is left from index i on of the list of the item in hand
abbrev pub left_of : {F B : Type 0} → (F → List B) → Option F → ℕ → List B
left_of parts None i = []
left_of parts (Some x) i = drop i (parts x)
