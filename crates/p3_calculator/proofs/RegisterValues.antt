-- The registers of a state hold values, and so do those of the state that a line leaves.
use Rattle.std.proofs.Common.{◌≡◌, ◌∙◌, ◌<◌, ◌≤◌, ◌-◌, ℕ, zero, suc, Bool, true, false, ◌&&◌, ◌==◌, MatchBool, List, [], ◌∷◌, ◌++◌, length, nat_lt, Option, Some, None, Result, Ok, Err, ◌⊎◌, if◌then◌else◌, replicate, inl, inr, refl, sym, ap, subst, arith}
use Rattle.std.specs.Prelude.{nat_le, slice_set, IfSome, IfOk}
use Rattle.std.specs.Str.{bytes_eq}
use Rattle.std.proofs.lemmas.Bool.{eqb-true, leb-true}
use Rattle.std.proofs.lemmas.List.{get_or-replicate}
use Rattle.p3_theory.specs.RingSolver.SolverSound.{and_true}
use Rattle.p3_theory.specs.Rings.Powers.{power}
use Rattle.p3_calculator_text.specs.declared.commands.Command.{Command}
use Rattle.p3_calculator_text.specs.declared.commands.Command.TheVariants.{Field, Compute}
use Rattle.p3_calculator_text.specs.declared.commands.Operation.{Operation}
use Rattle.p3_calculator_text.specs.declared.commands.Operation.TheVariants.{Put, Binary, Unary, Pow, Inv, Sqrt, Show}
use Rattle.p3_calculator_text.specs.declared.commands.BinaryOperation.{BinaryOperation}
use Rattle.p3_calculator_text.specs.declared.commands.BinaryOperation.TheVariants.{Add, Sub, Mul}
use Rattle.p3_calculator_text.specs.declared.commands.UnaryOperation.{UnaryOperation}
use Rattle.p3_calculator_text.specs.declared.commands.UnaryOperation.TheVariants.{Neg, Sq, Dbl}
use Rattle.p3_calculator_text.specs.declared.faults.Fault.{Fault}
use Rattle.p3_calculator_text.specs.declared.faults.Fault.TheVariants.{UnknownCommand, WordCount, NoInverse, NoRoot, NoField, NoMemory, LongLine}
use Rattle.p3_calculator.specs.Display.{display}
use Rattle.p3_calculator.specs.States.{State, at_field, register_at}
use Rattle.p3_calculator.specs.Fields.{FieldSpec, IsValue, AllBelow, order, dimension, ops}
use Rattle.p3_calculator.specs.Names.{named_fields, field_named}
use Rattle.p3_calculator_text.specs.Tables.{lookup}
use Rattle.p3_calculator_text.specs.Lines.{words}
use Rattle.p3_calculator_text.specs.Words.{command_of, number_from, up_to, decimal_up_to, number, register, one_of, two_of, three_of, two_with_number, one_register, two_registers, three_registers, registers_and_number}
use Rattle.p3_calculator.specs.Effects.{Outcome, Continues, Faults, At, Inverts, TakesRoot, Shows, Computes, ComputesAt, Chooses, Commands, Does, May, sets, puts, chosen, onto, numbers_below, binary, unary}
use Rattle.p3_calculator.specs.RegisterValues.{HasValues, HoldValues, IsFilled, Filled}
use Rattle.p3_calculator.proofs.FieldValues.{is_sound, has_values, power_is}

-- the registers hold values after an outcome
abbrev pub FilledAfter : Outcome → Type 0
FilledAfter (Continues st out) = Filled st
FilledAfter (Faults fault) = Unit {0}

-- numbers of registers are below 16
up_to_most : (most : ℕ) (o : Option ℕ) → IfSome (up_to most o) (λ n. n ≤ most)
up_to_most most None = tt
up_to_most most (Some n) = go (nat_le n most) refl
  where
    go : (b : Bool) → nat_le n most ≡ b → IfSome (if b then Some n else None) (λ n. n ≤ most)
    go true e = leb-true n most e
    go false e = tt

decimal_most : (digits most : ℕ) (word : List ℕ) → IfSome (decimal_up_to digits most word) (λ n. n ≤ most)
decimal_most digits most word = go (nat_lt 0 (length word) && nat_le (length word) digits)
  where
    go : (b : Bool) → IfSome (if b then up_to most (number_from 0 word) else None) (λ n. n ≤ most)
    go true = up_to_most most (number_from 0 word)
    go false = tt

one_most : (r : Option ℕ) → IfSome r (λ n. n ≤ 15) → IfOk (one_of r) (λ r. r < 16)
one_most None h = tt
one_most (Some r) h = omega (arith, h)

two_most : (r a : Option ℕ) → IfSome a (λ n. n ≤ 15) → IfOk (two_of r a) (λ p. p.1 < 16)
two_most None a k = tt
two_most (Some r) None k = tt
two_most (Some r) (Some a) k = omega (arith, k)

three_most : (r a b : Option ℕ) → IfSome a (λ n. n ≤ 15) → IfSome b (λ n. n ≤ 15) → IfOk (three_of r a b) (λ p. (p.1 < 16) × (p.2 < 16))
three_most None a b k l = tt
three_most (Some r) None b k l = tt
three_most (Some r) (Some a) None k l = tt
three_most (Some r) (Some a) (Some b) k l = (omega (arith, k), omega (arith, l))

number_most : (r a e : Option ℕ) → IfSome a (λ n. n ≤ 15) → IfOk (two_with_number r a e) (λ p. p.1 < 16)
number_most None a e k = tt
number_most (Some r) None e k = tt
number_most (Some r) (Some a) None k = tt
number_most (Some r) (Some a) (Some e) k = omega (arith, k)

register_most : (word : List ℕ) → IfSome (register word) (λ n. n ≤ 15)
register_most word = decimal_most 2 15 word

pub one_below : (args : List (List ℕ)) → IfOk (one_register args) (λ r. r < 16)
one_below [] = tt
one_below (r ∷ []) = one_most (register r) (register_most r)
one_below (r ∷ a ∷ args) = tt

pub two_below : (args : List (List ℕ)) → IfOk (two_registers args) (λ p. p.1 < 16)
two_below [] = tt
two_below (r ∷ []) = tt
two_below (r ∷ a ∷ []) = two_most (register r) (register a) (register_most a)
two_below (r ∷ a ∷ b ∷ args) = tt

pub three_below : (args : List (List ℕ)) → IfOk (three_registers args) (λ p. (p.1 < 16) × (p.2 < 16))
three_below [] = tt
three_below (r ∷ []) = tt
three_below (r ∷ a ∷ []) = tt
three_below (r ∷ a ∷ b ∷ []) = three_most (register r) (register a) (register b) (register_most a) (register_most b)
three_below (r ∷ a ∷ b ∷ c ∷ args) = tt

pub number_below : (args : List (List ℕ)) → IfOk (registers_and_number args) (λ p. p.1 < 16)
number_below [] = tt
number_below (r ∷ []) = tt
number_below (r ∷ a ∷ []) = tt
number_below (r ∷ a ∷ e ∷ []) = number_most (register r) (register a) (number 18446744073709551615 e) (register_most a)
number_below (r ∷ a ∷ e ∷ c ∷ args) = tt

-- a register that is written holds what was written, and the others what they held
written_or_kept : (regs : List (List ℕ)) (r k : ℕ) (v : List ℕ) → (register_at (slice_set regs r v) k ≡ v) ⊎ (register_at (slice_set regs r v) k ≡ register_at regs k)
written_or_kept [] r k v = inr refl
written_or_kept (x ∷ regs) zero zero v = inl refl
written_or_kept (x ∷ regs) zero (suc k) v = inr refl
written_or_kept (x ∷ regs) (suc r) zero v = inr refl
written_or_kept (x ∷ regs) (suc r) (suc k) v = written_or_kept regs r k v

sets_filled : (s : FieldSpec) (regs : List (List ℕ)) (r : ℕ) (v : List ℕ) → HasValues s → HoldValues s regs → IsValue s v → FilledAfter (sets s regs r v)
sets_filled s regs r v f h w = (f, λ k l. elim (written_or_kept regs r k v) [ inl e ↦ subst (IsValue s) (sym e) w | inr e ↦ subst (IsValue s) (sym e) (h k l) ])

zeros_filled : (s : FieldSpec) → HasValues s → HoldValues s (replicate 16 (ops s).zero)
zeros_filled s f r l = subst (IsValue s) (sym (get_or-replicate 16 r (ops s).zero [] l)) f.zero_is

-- numbers below the order are a value's coefficients, as many as there are
onto_below : (n k : ℕ) (c : Option ℕ) (cs : Option (List ℕ)) → 1 < n → IfSome c (λ m. m ≤ n - 1) → IfSome cs (λ v. (length v ≡ k) × AllBelow n v) → IfSome (onto c cs) (λ v. (length v ≡ suc k) × AllBelow n v)
onto_below n k None cs h a b = tt
onto_below n k (Some c) None h a b = tt
onto_below n k (Some c) (Some cs) h a b = (ap suc b.0, (omega (arith, h, a), b.1))

numbers_value : (n : ℕ) (cs : List (List ℕ)) → 1 < n → IfSome (numbers_below n cs) (λ v. (length v ≡ length cs) × AllBelow n v)
numbers_value n [] h = (refl, tt)
numbers_value n (word ∷ more) h = onto_below n (length more) (number (n - 1) word) (numbers_below n more) h (decimal_most 20 (n - 1) word) (numbers_value n more h)

puts_filled : (s : FieldSpec) (regs : List (List ℕ)) (r : Option ℕ) (v : Option (List ℕ)) → HasValues s → HoldValues s regs → IfSome v (IsValue s) → FilledAfter (puts s regs r v)
puts_filled s regs None v f h w = tt
puts_filled s regs (Some r) None f h w = tt
puts_filled s regs (Some r) (Some v) f h w = sets_filled s regs r v f h w

as_value : (s : FieldSpec) (k : ℕ) (v : Option (List ℕ)) → k ≡ dimension s → IfSome v (λ v. (length v ≡ k) × AllBelow (order s) v) → IfSome v (IsValue s)
as_value s k None e w = tt
as_value s k (Some v) e w = (w.0 ∙ e, w.1)

put_filled : (s : FieldSpec) (regs : List (List ℕ)) (r : List ℕ) (cs : List (List ℕ)) → HasValues s → HoldValues s regs
    → FilledAfter (if length cs == dimension s then puts s regs (register r) (numbers_below (order s) cs) else Faults WordCount)
put_filled s regs r cs f h = go (length cs == dimension s) refl
  where
    go : (b : Bool) → (length cs == dimension s) ≡ b → FilledAfter (if b then puts s regs (register r) (numbers_below (order s) cs) else Faults WordCount)
    go true e = puts_filled s regs (register r) (numbers_below (order s) cs) f h (as_value s (length cs) (numbers_below (order s) cs) (eqb-true (length cs) (dimension s) e) (numbers_value (order s) cs f.above_one))
    go false e = tt

binary_is : (operation : BinaryOperation) (s : FieldSpec) (x y : List ℕ) → HasValues s → IsValue s x → IsValue s y → IsValue s (binary operation (ops s) x y)
binary_is Add s x y f v w = f.sum x y v w
binary_is Sub s x y f v w = f.sum x ((ops s).neg y) v (f.negation y w)
binary_is Mul s x y f v w = f.product x y v w

unary_is : (operation : UnaryOperation) (s : FieldSpec) (x : List ℕ) → HasValues s → IsValue s x → IsValue s (unary operation (ops s) x)
unary_is Neg s x f v = f.negation x v
unary_is Sq s x f v = f.product x x v v
unary_is Dbl s x f v = f.sum x x v v

-- what a line leaves
is_filled : (o p : Outcome) → o ≡ p → FilledAfter p → FilledAfter o
is_filled o p e h = subst FilledAfter (sym e) h

at_filled : {A : Type 0} (read : Result A Fault) (Q : A → Type 0) (P : A → Outcome → Type 0) (o : Outcome) → IfOk read Q → ((a : A) → Q a → P a o → FilledAfter o) → At read P o → FilledAfter o
at_filled (Ok a) Q P o q some h = some a q h
at_filled (Err k) Q P o q some h = is_filled o (Faults k) h tt

inverts_filled : (s : FieldSpec) (regs : List (List ℕ)) (r : ℕ) (x : List ℕ) (o : Outcome) → HasValues s → HoldValues s regs → Inverts s regs r x o → FilledAfter o
inverts_filled s regs r x o f h i = elim i [
  | inl p ↦ is_filled o (sets s regs r p.0) p.2 (sets_filled s regs r p.0 f h p.1.0)
  | inr none ↦ is_filled o (Faults NoInverse) none.1 tt
]

roots_filled : (s : FieldSpec) (regs : List (List ℕ)) (r : ℕ) (x : List ℕ) (o : Outcome) → HasValues s → HoldValues s regs → TakesRoot s regs r x o → FilledAfter o
roots_filled s regs r x o f h i = elim i [
  | inl p ↦ is_filled o (sets s regs r p.0) p.2 (sets_filled s regs r p.0 f h p.1.0)
  | inr none ↦ is_filled o (Faults NoRoot) none.2 tt
]

shows_filled : (s : FieldSpec) (regs : List (List ℕ)) (r : ℕ) (o : Outcome) → HasValues s → HoldValues s regs → Shows s regs r o → FilledAfter o
shows_filled s regs r o f h i = elim i [
  | inl e ↦ is_filled o (Continues (at_field s regs) (display (register_at regs r) ++ 10 ∷ [])) e (f, h)
  | inr e ↦ is_filled o (Faults NoMemory) e tt
]

computes_filled : (operation : Operation) (s : FieldSpec) (regs args : List (List ℕ)) (o : Outcome) → HasValues s → HoldValues s regs → Computes operation s regs args o → FilledAfter o
computes_filled Put s regs [] o f h e = is_filled o (Faults WordCount) e tt
computes_filled Put s regs (r ∷ cs) o f h e = is_filled o _ e (put_filled s regs r cs f h)
computes_filled (Binary b) s regs args o f h e = at_filled (three_registers args) (λ p. (p.1 < 16) × (p.2 < 16)) _ o (three_below args)
    (λ p l k. is_filled o _ k (sets_filled s regs p.0 (binary b (ops s) (register_at regs p.1) (register_at regs p.2)) f h (binary_is b s (register_at regs p.1) (register_at regs p.2) f (h p.1 l.0) (h p.2 l.1)))) e
computes_filled (Unary b) s regs args o f h e = at_filled (two_registers args) (λ p. p.1 < 16) _ o (two_below args)
    (λ p l k. is_filled o _ k (sets_filled s regs p.0 (unary b (ops s) (register_at regs p.1)) f h (unary_is b s (register_at regs p.1) f (h p.1 l)))) e
computes_filled Pow s regs args o f h e = at_filled (registers_and_number args) (λ p. p.1 < 16) _ o (number_below args)
    (λ p l k. is_filled o _ k (sets_filled s regs p.0 (power (ops s) (register_at regs p.1) p.2) f h (power_is s f (register_at regs p.1) p.2 (h p.1 l)))) e
computes_filled Inv s regs args o f h e = at_filled (two_registers args) (λ p. p.1 < 16) _ o (two_below args) (λ p l k. inverts_filled s regs p.0 (register_at regs p.1) o f h k) e
computes_filled Sqrt s regs args o f h e = at_filled (two_registers args) (λ p. p.1 < 16) _ o (two_below args) (λ p l k. roots_filled s regs p.0 (register_at regs p.1) o f h k) e
computes_filled Show s regs args o f h e = at_filled (one_register args) (λ r. r < 16) _ o (one_below args) (λ r l k. shows_filled s regs r o f h k) e

computes_at_filled : (field : Option FieldSpec) (operation : Operation) (regs args : List (List ℕ)) (o : Outcome) → IsFilled field regs → ComputesAt field operation regs args o → FilledAfter o
computes_at_filled None operation regs args o f e = is_filled o (Faults NoField) e tt
computes_at_filled (Some s) operation regs args o f e = computes_filled operation s regs args o f.0 f.1 e

-- each field that has a name
abbrev OfValues : Option FieldSpec → Type 0
OfValues None = Unit {0}
OfValues (Some s) = HasValues s

abbrev all_sound : List (List ℕ × FieldSpec) → Bool
all_sound [] = true
all_sound (entry ∷ entries) = is_sound entry.1 && all_sound entries

if_of : (b : Bool) (f g : Option FieldSpec) → OfValues f → OfValues g → OfValues (if b then f else g)
if_of true f g h k = h
if_of false f g h k = k

found_of : (entries : List (List ℕ × FieldSpec)) (name : List ℕ) → all_sound entries ≡ true → OfValues (lookup entries name)
found_of [] name h = tt
found_of (entry ∷ entries) name h =
    let w = and_true _ _ h in
    if_of (bytes_eq name entry.0) (Some entry.1) (lookup entries name) (has_values entry.1 w.0) (found_of entries name w.1)

named_of : (name : List ℕ) → OfValues (field_named name)
named_of name = found_of named_fields name refl

chosen_filled : (field : Option FieldSpec) → OfValues field → FilledAfter (chosen field)
chosen_filled None h = tt
chosen_filled (Some s) h = (h, zeros_filled s h)

chooses_filled : (args : List (List ℕ)) (o : Outcome) → Chooses args o → FilledAfter o
chooses_filled [] o e = is_filled o (Faults WordCount) e tt
chooses_filled (name ∷ []) o e = is_filled o (chosen (field_named name)) e (chosen_filled (field_named name) (named_of name))
chooses_filled (name ∷ more ∷ args) o e = is_filled o (Faults WordCount) e tt

commands_filled : (command : Option Command) (st : State) (args : List (List ℕ)) (o : Outcome) → Filled st → Commands command st args o → FilledAfter o
commands_filled None st args o f e = is_filled o (Faults UnknownCommand) e tt
commands_filled (Some Field) st args o f e = chooses_filled args o e
commands_filled (Some (Compute operation)) st args o f e = computes_at_filled st.field operation st.registers args o f e

does_filled : (st : State) (line : List (List ℕ)) (o : Outcome) → Filled st → Does st line o → FilledAfter o
does_filled st [] o f e = is_filled o (Continues st []) e f
does_filled st (word ∷ args) o f e = commands_filled (command_of word) st args o f e

pub may_filled : (st : State) (line : List ℕ) (o : Outcome) → Filled st → May st line o → FilledAfter o
may_filled st line o f h = go (nat_lt 256 (length line)) h
  where
    go : (long : Bool) → MatchBool long (o ≡ Faults LongLine) (Does st (words line) o) → FilledAfter o
    go true h = is_filled o (Faults LongLine) h tt
    go false h = does_filled st (words line) o f h
