-- Lines that take no square root have one text, but for refused memory.
use Rattle.std.proofs.Common.{◌≡◌, ◌≢◌, ◌∙◌, ◌<◌, ℕ, ◌+◌, suc, Bool, true, false, codes, MatchBool, List, [], ◌∷◌, ◌++◌, length, nat_lt, Option, Some, None, Result, Ok, Err, ◌⊎◌, if◌then◌else◌, inl, inr, refl, sym, ap, subst, arith, append_assoc}
use Rattle.std.specs.Prelude.{IfOk}
use Rattle.std.specs.Str.{bytes_eq}
use Rattle.std.proofs.lemmas.Slice.Eq.{bytes_eq-Decides}
use Rattle.p3_calculator_text.specs.declared.commands.Command.{Command}
use Rattle.p3_calculator_text.specs.declared.commands.Command.TheVariants.{Field, Compute}
use Rattle.p3_calculator_text.specs.declared.commands.Operation.{Operation}
use Rattle.p3_calculator_text.specs.declared.commands.Operation.TheVariants.{Put, Binary, Unary, Pow, Inv, Sqrt, Show}
use Rattle.p3_calculator_text.specs.declared.faults.Fault.{Fault}
use Rattle.p3_calculator_text.specs.declared.faults.Fault.TheVariants.{NoMemory, LongLine}
use Rattle.p3_calculator.specs.States.{State, register_at}
use Rattle.p3_calculator.specs.Fields.{FieldSpec, IsValue}
use Rattle.p3_calculator_text.specs.Tables.{lookup}
use Rattle.p3_calculator_text.specs.Lines.{words}
use Rattle.p3_calculator_text.specs.Words.{commands, command_of, one_register, two_registers, three_registers, registers_and_number}
use Rattle.p3_calculator.specs.Effects.{Outcome, Continues, Faults, At, Inverts, Shows, Computes, ComputesAt, Chooses, Commands, Does, May, sets}
use Rattle.p3_calculator_text.specs.Faults.{fault_line}
use Rattle.p3_calculator.specs.Text.{IsTextFrom, After}
use Rattle.p3_calculator.specs.SameTexts.{TakesNoRoot, TakeNoRoots, EndsForMemory, AreOneFrom}
use Rattle.p3_calculator.specs.RegisterValues.{HasValues, HoldValues, IsFilled, Filled}
use Rattle.p3_calculator.proofs.RegisterValues.{FilledAfter, two_below, may_filled}

-- the outcomes are the same, or memory was refused in one of them
abbrev Alike : Outcome → Outcome → Type 0
Alike o p = (o ≡ p) ⊎ ((o ≡ Faults NoMemory) ⊎ (p ≡ Faults NoMemory))

same : (o p q : Outcome) → o ≡ q → p ≡ q → Alike o p
same o p q e f = inl (e ∙ sym f)

at_alike : {A : Type 0} (read : Result A Fault) (Q : A → Type 0) (P : A → Outcome → Type 0) (o p : Outcome) → IfOk read Q → ((a : A) → Q a → P a o → P a p → Alike o p) → At read P o → At read P p → Alike o p
at_alike (Ok a) Q P o p q some e f = some a q e f
at_alike (Err k) Q P o p q some e f = same o p (Faults k) e f

any_ok : {A E : Type 0} (r : Result A E) → IfOk r (λ a. Unit {0})
any_ok (Ok a) = tt
any_ok (Err k) = tt

inverts_alike : (s : FieldSpec) (regs : List (List ℕ)) (r : ℕ) (x : List ℕ) (o p : Outcome) → HasValues s → IsValue s x → Inverts s regs r x o → Inverts s regs r x p → Alike o p
inverts_alike s regs r x o p f v i j = elim i [
  | inl a ↦ elim j [
    | inl b ↦ inl (a.2 ∙ ap (sets s regs r) (f.one_inverse x a.0 b.0 v a.1 b.1) ∙ sym b.2)
    | inr none ↦ absurd (none.0 a.0 a.1)
  ]
  | inr none ↦ elim j [
    | inl b ↦ absurd (none.0 b.0 b.1)
    | inr more ↦ inl (none.1 ∙ sym more.1)
  ]
]

shows_alike : (s : FieldSpec) (regs : List (List ℕ)) (r : ℕ) (o p : Outcome) → Shows s regs r o → Shows s regs r p → Alike o p
shows_alike s regs r o p i j = elim i [
  | inl a ↦ elim j [ inl b ↦ inl (a ∙ sym b) | inr b ↦ inr (inr b) ]
  | inr a ↦ inr (inl a)
]

-- a line's command, but for a square root
abbrev IsNoRoot : Operation → Type 0
IsNoRoot Put = Unit {0}
IsNoRoot (Binary f) = Unit {0}
IsNoRoot (Unary f) = Unit {0}
IsNoRoot Pow = Unit {0}
IsNoRoot Inv = Unit {0}
IsNoRoot Sqrt = ⊥
IsNoRoot Show = Unit {0}

abbrev AsksNoRoot : Option Command → Type 0
AsksNoRoot None = Unit {0}
AsksNoRoot (Some Field) = Unit {0}
AsksNoRoot (Some (Compute operation)) = IsNoRoot operation

abbrev EachAsksNone : List ℕ → List (List ℕ × Command) → Type 0
EachAsksNone word [] = Unit {0}
EachAsksNone word (entry ∷ entries) = (bytes_eq word entry.0 ≡ true → AsksNoRoot (Some entry.1)) × EachAsksNone word entries

found_none : (entries : List (List ℕ × Command)) (word : List ℕ) → EachAsksNone word entries → AsksNoRoot (lookup entries word)
found_none [] word h = tt
found_none (entry ∷ entries) word h = go (bytes_eq word entry.0) refl (found_none entries word h.1)
  where
    go : (b : Bool) → bytes_eq word entry.0 ≡ b → AsksNoRoot (lookup entries word) → AsksNoRoot (if b then Some entry.1 else lookup entries word)
    go true e k = h.0 e
    go false e k = k

no_root : (word : List ℕ) → word ≢ codes "sqrt" → AsksNoRoot (command_of word)
no_root word n = found_none commands word (λ e. tt, (λ e. tt, (λ e. tt, (λ e. tt, (λ e. tt, (λ e. tt, (λ e. tt, (λ e. tt, (λ e. tt, (λ e. tt, (λ e. n ((bytes_eq-Decides word (codes "sqrt")).0 e), (λ e. tt, tt))))))))))))

computes_alike : (operation : Operation) (s : FieldSpec) (regs args : List (List ℕ)) (o p : Outcome) → IsNoRoot operation → HasValues s → HoldValues s regs → Computes operation s regs args o → Computes operation s regs args p → Alike o p
computes_alike Put s regs [] o p n f h i j = same o p _ i j
computes_alike Put s regs (r ∷ cs) o p n f h i j = same o p _ i j
computes_alike (Binary b) s regs args o p n f h i j = at_alike (three_registers args) _ _ o p (any_ok (three_registers args)) (λ a q e k. same o p _ e k) i j
computes_alike (Unary b) s regs args o p n f h i j = at_alike (two_registers args) _ _ o p (any_ok (two_registers args)) (λ a q e k. same o p _ e k) i j
computes_alike Pow s regs args o p n f h i j = at_alike (registers_and_number args) _ _ o p (any_ok (registers_and_number args)) (λ a q e k. same o p _ e k) i j
computes_alike Inv s regs args o p n f h i j = at_alike (two_registers args) (λ a. a.1 < 16) _ o p (two_below args) (λ a l e k. inverts_alike s regs a.0 (register_at regs a.1) o p f (h a.1 l) e k) i j
computes_alike Sqrt s regs args o p n f h i j = absurd n
computes_alike Show s regs args o p n f h i j = at_alike (one_register args) _ _ o p (any_ok (one_register args)) (λ r q e k. shows_alike s regs r o p e k) i j

computes_at_alike : (field : Option FieldSpec) (operation : Operation) (regs args : List (List ℕ)) (o p : Outcome) → IsNoRoot operation → IsFilled field regs → ComputesAt field operation regs args o → ComputesAt field operation regs args p → Alike o p
computes_at_alike None operation regs args o p n f i j = same o p _ i j
computes_at_alike (Some s) operation regs args o p n f i j = computes_alike operation s regs args o p n f.0 f.1 i j

chooses_alike : (args : List (List ℕ)) (o p : Outcome) → Chooses args o → Chooses args p → Alike o p
chooses_alike [] o p i j = same o p _ i j
chooses_alike (name ∷ []) o p i j = same o p _ i j
chooses_alike (name ∷ more ∷ args) o p i j = same o p _ i j

commands_alike : (command : Option Command) (st : State) (args : List (List ℕ)) (o p : Outcome) → AsksNoRoot command → Filled st → Commands command st args o → Commands command st args p → Alike o p
commands_alike None st args o p n f i j = same o p _ i j
commands_alike (Some Field) st args o p n f i j = chooses_alike args o p i j
commands_alike (Some (Compute operation)) st args o p n f i j = computes_at_alike st.field operation st.registers args o p n f i j

does_alike : (st : State) (line : List (List ℕ)) (o p : Outcome) → TakesNoRoot line → Filled st → Does st line o → Does st line p → Alike o p
does_alike st [] o p n f i j = same o p _ i j
does_alike st (word ∷ args) o p n f i j = commands_alike (command_of word) st args o p (no_root word n) f i j

may_alike : (st : State) (line : List ℕ) (o p : Outcome) → TakesNoRoot (words line) → Filled st → May st line o → May st line p → Alike o p
may_alike st line o p n f i j = go (nat_lt 256 (length line)) i j
  where
    go : (long : Bool) → MatchBool long (o ≡ Faults LongLine) (Does st (words line) o) → MatchBool long (p ≡ Faults LongLine) (Does st (words line) p) → Alike o p
    go true i j = same o p _ i j
    go false i j = does_alike st (words line) o p n f i j

-- what the lines behind the first one make
abbrev Behind : ℕ → List (List ℕ) → State → List ℕ → ℕ → Type 0
Behind n lines st more status = IsTextFrom (n + 1) st lines more status

-- a text that goes on behind an outcome ends for memory where the rest of it does
ends_behind : (n : ℕ) (st new : State) (line : List ℕ) (lines : List (List ℕ)) (out a b more rest : List ℕ) (s : ℕ) → May st line (Continues new out) → a ≡ out ++ more → b ≡ out ++ rest
    → EndsForMemory (n + 1) new lines more s rest → EndsForMemory n st (line ∷ lines) a s b
ends_behind n st new line lines out a b more rest s may e f h = (
  suc h.0,
  out ++ h.1,
  h.2,
  (Continues new out, may, (h.1, h.3, refl)),
  e ∙ ap (λ l. out ++ l) h.4 ∙ sym (append_assoc out h.1 (fault_line (n + 1 + h.0) NoMemory)) ∙ ap (λ k. (out ++ h.1) ++ fault_line k NoMemory) (omega arith),
  h.5,
  f ∙ ap (λ l. out ++ l) h.6 ∙ sym (append_assoc out h.1 h.2),
)

behind : (n : ℕ) (st : State) (line : List ℕ) (lines : List (List ℕ)) (a b : List ℕ) (s t : ℕ) (o : Outcome) → FilledAfter o → May st line o
    → ((new : State) (more rest : List ℕ) → Filled new → Behind n lines new more s → Behind n lines new rest t → AreOneFrom (n + 1) new lines more s rest t)
    → After n o (Behind n lines) a s → After n o (Behind n lines) b t → AreOneFrom n st (line ∷ lines) a s b t
behind n st line lines a b s t (Faults fault) f may rec x y = inl (x.0 ∙ sym y.0, x.1 ∙ sym y.1)
behind n st line lines a b s t (Continues new out) f may rec x y = elim (rec new x.0 y.0 f x.1 y.1) [
  | inl e ↦ inl (x.2 ∙ ap (λ l. out ++ l) e.0 ∙ sym y.2, e.1)
  | inr h ↦ elim h [
    | inl l ↦ inr (inl (ends_behind n st new line lines out a b x.0 y.0 s may x.2 y.2 l))
    | inr r ↦ inr (inr (ends_behind n st new line lines out b a y.0 x.0 t may y.2 x.2 r))
  ]
]

-- memory was refused at the first line
ends_here : (n : ℕ) (st : State) (line : List ℕ) (lines : List (List ℕ)) (a b : List ℕ) (s : ℕ) (o : Outcome) → o ≡ Faults NoMemory → After n o (Behind n lines) a s → EndsForMemory n st (line ∷ lines) a s b
ends_here n st line lines a b s o e x =
    let y : (a ≡ fault_line n NoMemory) × (s ≡ 1) = subst (λ (p : Outcome). After n p (Behind n lines) a s) e x in
    (0, [], b, (refl, refl), y.0 ∙ ap (λ k. fault_line k NoMemory) (omega arith), y.1, refl)

pub one_text : (n : ℕ) (st : State) (lines : List (List ℕ)) (a b : List ℕ) (s t : ℕ) → Filled st → TakeNoRoots lines → IsTextFrom n st lines a s → IsTextFrom n st lines b t → AreOneFrom n st lines a s b t
one_text n st [] a b s t f none x y = inl (x.0 ∙ sym y.0, x.1 ∙ sym y.1)
one_text n st (line ∷ lines) a b s t f none x y = elim (may_alike st line x.0 y.0 none.0 f x.1 y.1) [
  | inl e ↦ behind n st line lines a b s t y.0 (may_filled st line y.0 f y.1) y.1 (λ new more rest g v w. one_text (n + 1) new lines more rest s t g none.1 v w)
      (subst (λ (o : Outcome). After n o (Behind n lines) a s) e x.2) y.2
  | inr h ↦ elim h [
    | inl e ↦ inr (inl (ends_here n st line lines a b s x.0 e x.2))
    | inr e ↦ inr (inr (ends_here n st line lines b a t y.0 e y.2))
  ]
]
