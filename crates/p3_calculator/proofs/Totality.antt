-- Every input has a text: each line has an outcome, since it can be found whether a value has an inverse or a root.
use Rattle.std.proofs.Common.{◌≡◌, ◌<◌, ℕ, ◌+◌, zero, suc, Bool, true, false, MatchBool, List, [], ◌∷◌, ◌++◌, length, nat_lt, Option, Some, None, Result, Ok, Err, ◌⊎◌, ◌∙◌, inl, inr, refl, ap, arith, subst, sym}
use Rattle.std.proofs.lemmas.Bool.{cases_eq}
use Rattle.p3_calculator_text.specs.declared.commands.Command.{Command}
use Rattle.p3_calculator_text.specs.declared.commands.Command.TheVariants.{Field, Compute}
use Rattle.p3_calculator_text.specs.declared.commands.Operation.{Operation}
use Rattle.p3_calculator_text.specs.declared.commands.Operation.TheVariants.{Put, Binary, Unary, Pow, Inv, Sqrt, Show}
use Rattle.p3_calculator_text.specs.declared.faults.Fault.{Fault}
use Rattle.p3_calculator_text.specs.declared.faults.Fault.TheVariants.{NoInverse, NoRoot, LongLine}
use Rattle.p3_theory.specs.Rings.Powers.{power}
use Rattle.p3_calculator.specs.Effects.{Outcome, Continues, Faults, At, Inverts, IsInverse, IsRoot, TakesRoot, Computes, ComputesAt, Chooses, Commands, Does, May, sets, binary, unary}
use Rattle.p3_calculator.specs.States.{State, register_at}
use Rattle.p3_calculator.specs.Fields.{FieldSpec, AllBelow, order, dimension, ops}
use Rattle.p3_calculator.specs.RegisterValues.{HasValues, IsFilled, Filled}
use Rattle.p3_calculator.proofs.RegisterValues.{FilledAfter, may_filled}
use Rattle.p3_calculator_text.specs.Lines.{words}
use Rattle.p3_calculator_text.specs.Faults.{fault_line}
use Rattle.p3_calculator.specs.Text.{IsTextFrom, After}
use Rattle.p3_calculator_text.specs.Words.{command_of, two_registers, three_registers, one_register, registers_and_number}

-- P holds, or it does not
abbrev Decided : Type 0 → Type 0
Decided P = P ⊎ (P → ⊥)

below_suc : (n k : ℕ) → k < suc n → (k ≡ n) ⊎ (k < n)
below_suc n k h = elim (cases_eq k n) [ inl e ↦ inl e | inr e ↦ inr (omega arith) ]

-- some number below n has P, or none
decide_below : (n : ℕ) (P : ℕ → Type 0) → ((k : ℕ) → Decided (P k)) → Decided ((k : ℕ) × (k < n) × P k)
decide_below zero P decide = inr (λ f. absurd (omega (arith, f.1)))
decide_below (suc n) P decide =
    elim (decide n) [
      | inl p ↦ inl (n, omega arith, p)
      | inr fails ↦ elim (decide_below n P decide) [
        | inl f ↦ inl (f.0, omega (arith, f.1), f.2)
        | inr none ↦ inr (λ f. elim (below_suc n f.0 f.1) [ inl e ↦ fails (subst P e f.2) | inr h ↦ none (f.0, h, f.2) ])
      ]
    ]

-- some list of D numbers below n has P, or none
abbrev SomeList : ℕ → ℕ → (List ℕ → Type 0) → Type 0
SomeList D n P = (cs : List ℕ) × ((length cs ≡ D) × AllBelow n cs) × P cs

head_apart : (n D : ℕ) (P : List ℕ → Type 0) → SomeList (suc D) n P → (c : ℕ) × (c < n) × SomeList D n (λ cs. P (c ∷ cs))
head_apart n D P ([], v, p) = absurd (omega (arith, v.0))
head_apart n D P (c ∷ cs, v, p) = (c, v.1.0, (cs, (omega (arith, v.0), v.1.1), p))

decide_lists : (D n : ℕ) (P : List ℕ → Type 0) → ((cs : List ℕ) → Decided (P cs)) → Decided (SomeList D n P)
decide_lists zero n P decide = elim (decide []) [ inl p ↦ inl ([], (refl, tt), p) | inr fails ↦ inr (none fails) ]
  where
    none : (P [] → ⊥) → SomeList zero n P → ⊥
    none fails ([], v, p) = fails p
    none fails (c ∷ cs, v, p) = absurd (omega (arith, v.0))
decide_lists (suc D) n P decide =
    elim (decide_below n (λ c. SomeList D n (λ cs. P (c ∷ cs))) (λ c. decide_lists D n (λ cs. P (c ∷ cs)) (λ cs. decide (c ∷ cs)))) [
      | inl f ↦ inl (f.0 ∷ f.2.0, (ap suc f.2.1.0, (f.1, f.2.1.1)), f.2.2)
      | inr none ↦ inr (λ f. none (head_apart n D P f))
    ]

same_list : (xs ys : List ℕ) → Decided (xs ≡ ys)
same_list [] [] = inl refl
same_list [] (y ∷ ys) = inr (λ e. absurd (cc e))
same_list (x ∷ xs) [] = inr (λ e. absurd (cc e))
same_list (x ∷ xs) (y ∷ ys) = elim (cases_eq x y) [
  | inl e ↦ elim (same_list xs ys) [ inl f ↦ inl (cc) | inr fails ↦ inr (λ h. fails (cc)) ]
  | inr fails ↦ inr (λ h. fails (cc))
]

-- a value has an inverse, or none
inverse_or_none : (s : FieldSpec) (x : List ℕ) → Decided ((y : List ℕ) × IsInverse s x y)
inverse_or_none s x = elim (decide_lists (dimension s) (order s) (λ y. (ops s).mul x y ≡ (ops s).one) (λ y. same_list ((ops s).mul x y) (ops s).one)) [
  | inl f ↦ inl (f.0, (f.1, f.2))
  | inr none ↦ inr (λ f. none (f.0, f.1.0, f.1.1))
]

-- a value has a square root, or none
root_or_none : (s : FieldSpec) (x : List ℕ) → Decided ((y : List ℕ) × IsRoot s x y)
root_or_none s x = elim (decide_lists (dimension s) (order s) (λ y. (ops s).mul y y ≡ x) (λ y. same_list ((ops s).mul y y) x)) [
  | inl f ↦ inl (f.0, (f.1, f.2))
  | inr none ↦ inr (λ f. none (f.0, f.1.0, f.1.1))
]

takes_root : (s : FieldSpec) (regs : List (List ℕ)) (r : ℕ) (x : List ℕ) → HasValues s → (o : Outcome) × TakesRoot s regs r x o
takes_root s regs r x f = elim (root_or_none s x) [
  | inl y ↦ (sets s regs r y.0, inl (y.0, y.1, refl))
  | inr none ↦ (Faults NoRoot, inr (λ e. none ((ops s).zero, (f.zero_is, f.zero_square ∙ sym e)), λ p y i. none (y, i), refl))
]

inverts : (s : FieldSpec) (regs : List (List ℕ)) (r : ℕ) (x : List ℕ) → (o : Outcome) × Inverts s regs r x o
inverts s regs r x = elim (inverse_or_none s x) [
  | inl f ↦ (sets s regs r f.0, inl (f.0, f.1, refl))
  | inr none ↦ (Faults NoInverse, inr (λ y i. none (y, i), refl))
]

at_some : {A : Type 0} (read : Result A Fault) (P : A → Outcome → Type 0) → ((a : A) → (o : Outcome) × P a o) → (o : Outcome) × At read P o
at_some (Ok a) P some = some a
at_some (Err k) P some = (Faults k, refl)

computes : (operation : Operation) (s : FieldSpec) (regs args : List (List ℕ)) → HasValues s → (o : Outcome) × Computes operation s regs args o
computes Put s regs [] f = (_, refl)
computes Put s regs (r ∷ cs) f = (_, refl)
computes (Binary b) s regs args f = at_some (three_registers args) _ (λ p. (sets s regs p.0 (binary b (ops s) (register_at regs p.1) (register_at regs p.2)), refl))
computes (Unary b) s regs args f = at_some (two_registers args) _ (λ p. (sets s regs p.0 (unary b (ops s) (register_at regs p.1)), refl))
computes Pow s regs args f = at_some (registers_and_number args) _ (λ p. (sets s regs p.0 (power (ops s) (register_at regs p.1) p.2), refl))
computes Inv s regs args f = at_some (two_registers args) (λ p o. Inverts s regs p.0 (register_at regs p.1) o) (λ p. inverts s regs p.0 (register_at regs p.1))
computes Sqrt s regs args f = at_some (two_registers args) (λ p o. TakesRoot s regs p.0 (register_at regs p.1) o) (λ p. takes_root s regs p.0 (register_at regs p.1) f)
computes Show s regs args f = at_some (one_register args) _ (λ r. (_, inl refl))

computes_at : (field : Option FieldSpec) (operation : Operation) (regs args : List (List ℕ)) → IsFilled field regs → (o : Outcome) × ComputesAt field operation regs args o
computes_at None operation regs args f = (_, refl)
computes_at (Some s) operation regs args f = computes operation s regs args f.0

chooses : (args : List (List ℕ)) → (o : Outcome) × Chooses args o
chooses [] = (_, refl)
chooses (name ∷ []) = (_, refl)
chooses (name ∷ more ∷ args) = (_, refl)

commands : (command : Option Command) (st : State) (args : List (List ℕ)) → Filled st → (o : Outcome) × Commands command st args o
commands None st args f = (_, refl)
commands (Some Field) st args f = chooses args
commands (Some (Compute operation)) st args f = computes_at st.field operation st.registers args f

does : (st : State) (line : List (List ℕ)) → Filled st → (o : Outcome) × Does st line o
does st [] f = (_, refl)
does st (word ∷ args) f = commands (command_of word) st args f

some_outcome : (st : State) (line : List ℕ) → Filled st → (o : Outcome) × May st line o
some_outcome st line f = go (nat_lt 256 (length line))
  where
    go : (long : Bool) → (o : Outcome) × MatchBool long (o ≡ Faults LongLine) (Does st (words line) o)
    go true = (_, refl)
    go false = does st (words line) f

-- after an outcome there is a text, where there is one after each state that it may leave
after_outcome : (n : ℕ) (o : Outcome) → FilledAfter o → (Rest : State → List ℕ → ℕ → Type 0)
    → ((st : State) → Filled st → (more : List ℕ) × (final : ℕ) × Rest st more final) → (text : List ℕ) × (status : ℕ) × After n o Rest text status
after_outcome n (Continues st out) f Rest rest = let r = rest st f in (out ++ r.0, r.1, (r.0, r.2, refl))
after_outcome n (Faults fault) f Rest rest = (fault_line n fault, 1, (refl, refl))

-- from each such state, each list of lines has a text
pub every_text : (n : ℕ) (st : State) (lines : List (List ℕ)) → Filled st → (text : List ℕ) × (status : ℕ) × IsTextFrom n st lines text status
every_text n st [] f = ([], 0, (refl, refl))
every_text n st (line ∷ lines) f =
    let o = some_outcome st line f in
    let r = after_outcome n o.0 (may_filled st line o.0 f o.1) (λ t more final. IsTextFrom (n + 1) t lines more final) (λ t k. every_text (n + 1) t lines k) in
    (r.0, r.1, (o.0, o.1, r.2))
