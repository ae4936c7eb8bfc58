-- What a byte changes between two bytes of the input.
use Rattle.std.proofs.Common.{◌≡◌, ◌∙◌, ℕ, ◌+◌, ◌-◌, ◌<◌, ◌≤◌, Bool, true, MatchBool, List, [], ◌∷◌, ◌++◌, length, take, drop, get_or, lt-ltb, refl, sym, ap, subst, arith, append_assoc, append-nil, length-append, Option, Result, Ok, Err}
use Rattle.std.proofs.lemmas.List.{take_more, take_all, take-append-drop, length-take-le, length-drop}
use Rattle.std.proofs.Math.Seq.{take-add, take-length}
use Rattle.std.specs.List.{flat_map}
use Rattle.p3_calculator.specs.declared.machine.Machine.{Machine}
use Rattle.p3_calculator_text.specs.declared.faults.Fault.{Fault}
use Rattle.p3_calculator_text.specs.declared.faults.Fault.TheVariants.{LongLine}
use Rattle.p3_calculator.specs.declared.machine.Stop.{Stop}
use Rattle.p3_calculator.specs.declared.machine.Stop.TheVariants.{AtFault, AtWrite}
use Rattle.std.proofs.KnownBytes.{Appends-nil, Appends-trans}
use Rattle.p3_calculator_text.specs.Lines.{lines_of}
use Rattle.p3_calculator.specs.Bank.{state_of}
use Rattle.p3_calculator.specs.Effects.{Continues, Faults, May}
use Rattle.p3_calculator.specs.States.{State}
use Rattle.p3_calculator_text.specs.Faults.{fault_line}
use Rattle.p3_calculator.specs.Text.{IsTextFrom, IsText, BeginsText}
use Rattle.p3_calculator.specs.RegisterValues.{Filled}
use Rattle.p3_calculator.proofs.RegisterValues.{may_filled}
use Rattle.p3_calculator.proofs.Totality.{every_text}
use Rattle.p3_calculator.specs.RunSoFar.{RunSoFar, RunAfter, TakesBytes, HasNoEnd, ended}
use Rattle.p3_calculator.proofs.LineLemmas.{lines_of-line, lines_of-lines, lines_of-rest, begun, HasNoEnd-append, HaveNoEnd-append, flat_map-append}

-- the line that is pending
abbrev pub pending_of : Machine → List ℕ
pending_of m = take m.line.used m.line.bytes

-- whatever follows the pending bytes, the lines so far come first
pub lines_so_far : (m : Machine) (before text : List ℕ) (st : RunSoFar m before text) (more : List ℕ) → lines_of (before ++ more) ≡ st.lines ++ lines_of (pending_of m ++ more)
lines_so_far m before text st more =
    ap (λ b. lines_of (b ++ more)) st.bytes_are
    ∙ ap lines_of (append_assoc (flat_map ended st.lines) (pending_of m) more)
    ∙ lines_of-lines st.lines (pending_of m ++ more) st.each

pub cut_line : (m : Machine) (before text : List ℕ) (st : RunSoFar m before text) (more : List ℕ) → lines_of ((before ++ 10 ∷ []) ++ more) ≡ st.lines ++ pending_of m ∷ lines_of more
cut_line m before text st more =
    ap lines_of (append_assoc before (10 ∷ []) more) ∙ lines_so_far m before text st (10 ∷ more)
    ∙ ap (λ l. st.lines ++ l) (lines_of-line (pending_of m) more st.pending)

-- a line was carried out
pub goes : (m after : Machine) (before text out : List ℕ) → RunSoFar m before text → May (state_of m.bank) (pending_of m) (Continues (state_of after.bank) out) → after.number ≡ m.number + 1 → after.line.used ≡ 0 → RunSoFar after (before ++ 10 ∷ []) (text ++ out)
goes m after before text out st may number used =
    let line = pending_of m in
    let none : pending_of after ≡ [] = ap (λ u. take u after.line.bytes) used in
    record {
      lines = st.lines ++ line ∷ [];
      each = HaveNoEnd-append st.lines (line ∷ []) st.each (st.pending, tt);
      bytes_are =
          ap (λ b. b ++ 10 ∷ []) st.bytes_are ∙ append_assoc (flat_map ended st.lines) line (10 ∷ [])
          ∙ ap (λ l. flat_map ended st.lines ++ l) (sym (append-nil (ended line)))
          ∙ sym (flat_map-append st.lines (line ∷ []))
          ∙ sym (append-nil (flat_map ended (st.lines ++ line ∷ [])))
          ∙ ap (λ l. flat_map ended (st.lines ++ line ∷ []) ++ l) (sym none);
      pending = subst HasNoEnd (sym none) tt;
      number = number ∙ omega (arith, st.number, length-append st.lines (line ∷ []));
      filled = may_filled (state_of m.bank) line (Continues (state_of after.bank) out) st.filled may;
      goes_on = λ ls more status h.
          let here : IsTextFrom (m.number + 1) (state_of after.bank) ls more status = subst (λ (n : ℕ). IsTextFrom n (state_of after.bank) ls more status) number h in
          let all = st.goes_on (line ∷ ls) (out ++ more) status (Continues (state_of after.bank) out, may, (more, here, refl)) in
          subst (λ (l : List (List ℕ)). IsText l ((text ++ out) ++ more) status) (sym (append_assoc st.lines (line ∷ []) ls))
          (subst (λ (t : List ℕ). IsText (st.lines ++ line ∷ ls) t status) (sym (append_assoc text out more)) all);
    }

-- a line ended the run with a fault
pub faulted : (m : Machine) (before text : List ℕ) (k : Fault) → RunSoFar m before text → May (state_of m.bank) (pending_of m) (Faults k) → (more : List ℕ) → IsText (lines_of ((before ++ 10 ∷ []) ++ more)) ((text ++ []) ++ fault_line m.number k) 1
faulted m before text k st may more =
    subst (λ (t : List ℕ). IsText (lines_of ((before ++ 10 ∷ []) ++ more)) (t ++ fault_line m.number k) 1) (sym (append-nil text)) (subst (λ (l : List (List ℕ)). IsText l (text ++ fault_line m.number k) 1) (sym (cut_line m before text st more))
    (st.goes_on (pending_of m ∷ lines_of more) (fault_line m.number k) 1 (Faults k, may, (refl, refl))))

-- the writer failed at a line's text
pub front_rest : (text out : List ℕ) (n : ℕ) → (text ++ take n out) ++ drop n out ≡ text ++ out
front_rest text out n = append_assoc text (take n out) (drop n out) ∙ ap (λ l. text ++ l) (take-append-drop n out)

pub front_rest-more : (text out more : List ℕ) (n : ℕ) → (text ++ take n out) ++ (drop n out ++ more) ≡ text ++ (out ++ more)
front_rest-more text out more n = sym (append_assoc (text ++ take n out) (drop n out) more) ∙ ap (λ l. l ++ more) (front_rest text out n) ∙ append_assoc text out more

pub stopped : (m : Machine) (t : State) (before text out : List ℕ) (n : ℕ) → RunSoFar m before text → May (state_of m.bank) (pending_of m) (Continues t out) → (more : List ℕ) → BeginsText (lines_of ((before ++ 10 ∷ []) ++ more)) (text ++ take n out)
stopped m t before text out n st may more =
    let line = pending_of m in
    let rest = every_text (m.number + 1) t (lines_of more) (may_filled (state_of m.bank) line (Continues t out) st.filled may) in
    let all = st.goes_on (line ∷ lines_of more) (out ++ rest.0) rest.1 (Continues t out, may, (rest.0, rest.2, refl)) in (
      drop n out ++ rest.0,
      rest.1,
      subst (λ (l : List (List ℕ)). IsText l ((text ++ take n out) ++ (drop n out ++ rest.0)) rest.1) (sym (cut_line m before text st more))
          (subst (λ (l : List ℕ). IsText (st.lines ++ line ∷ lines_of more) l rest.1) (sym (front_rest-more text out rest.0 n)) all),
    )

MatchBool-true : (b : Bool) (P Q : Type 0) → b ≡ true → P → MatchBool b P Q
MatchBool-true b P Q e p = subst (λ (x : Bool). MatchBool x P Q) (sym e) p

begun_by : (p more : List ℕ) → HasNoEnd p → 0 < length p → (line : List ℕ) × (lines : List (List ℕ)) × (lines_of (p ++ more) ≡ line ∷ lines) × (length p ≤ length line)
begun_by [] more h l = absurd (omega arith)
begun_by (b ∷ rest) more h l = begun b rest more h

-- one byte too many
pub overlong : (m : Machine) (before text : List ℕ) (byte : ℕ) → RunSoFar m before text → (byte ≡ 10 → ⊥) → 256 ≤ length (pending_of m) → (more : List ℕ) → IsText (lines_of ((before ++ byte ∷ []) ++ more)) ((text ++ []) ++ fault_line m.number LongLine) 1
overlong m before text byte st ne long more =
    let line = pending_of m in
    let full : 256 < length (line ++ byte ∷ []) = omega (arith, length-append line (byte ∷ [])) in
    let b = begun_by (line ++ byte ∷ []) more (HasNoEnd-append line (byte ∷ []) st.pending (ne, tt)) (omega arith) in
    let all : lines_of ((before ++ byte ∷ []) ++ more) ≡ st.lines ++ b.0 ∷ b.1 =
    ap lines_of (append_assoc before (byte ∷ []) more) ∙ lines_so_far m before text st (byte ∷ more)
    ∙ ap (λ l. st.lines ++ lines_of l) (sym (append_assoc line (byte ∷ []) more)) ∙ ap (λ l. st.lines ++ l) b.2 in
    let may : May (state_of m.bank) b.0 (Faults LongLine) = MatchBool-true _ _ _ (lt-ltb 256 (length b.0) (omega (arith, b.3))) refl in
    subst (λ (t : List ℕ). IsText (lines_of ((before ++ byte ∷ []) ++ more)) (t ++ fault_line m.number LongLine) 1) (sym (append-nil text))
    (subst (λ (l : List (List ℕ)). IsText l (text ++ fault_line m.number LongLine) 1) (sym all)
    (st.goes_on (b.0 ∷ b.1) (fault_line m.number LongLine) 1 (Faults LongLine, may, (refl, refl))))

-- letters went into the buffer
pub letters : (m after : Machine) (before text bytes : List ℕ) → RunSoFar m before text → HasNoEnd bytes → state_of after.bank ≡ state_of m.bank → after.number ≡ m.number → pending_of after ≡ pending_of m ++ bytes → RunSoFar after (before ++ bytes) (text ++ [])
letters m after before text bytes st ends state number pending = record {
  lines = st.lines;
  each = st.each;
  bytes_are = ap (λ b. b ++ bytes) st.bytes_are ∙ append_assoc (flat_map ended st.lines) (pending_of m) bytes ∙ ap (λ l. flat_map ended st.lines ++ l) (sym pending);
  pending = subst HasNoEnd (sym pending) (HasNoEnd-append (pending_of m) bytes st.pending ends);
  number = number ∙ st.number;
  filled = subst Filled (sym state) st.filled;
  goes_on = λ ls more status h.
      let same : IsTextFrom m.number (state_of m.bank) ls more status = subst (λ (n : ℕ). IsTextFrom n (state_of m.bank) ls more status) number (subst (λ (s : State). IsTextFrom after.number s ls more status) state h) in
      subst (λ (t : List ℕ). IsText (st.lines ++ ls) (t ++ more) status) (sym (append-nil text)) (st.goes_on ls more status same);
}

-- first some bytes, and then some more
pub taken_more : (old mid new : Machine) (a b c : Option (List ℕ)) (result : Result (Unit {0}) Stop) (first second : List ℕ) → TakesBytes old mid a b (Ok tt) first → TakesBytes mid new b c result second → TakesBytes old new a c result (first ++ second)
taken_more old mid new a b c result first second p q = λ before text st.
    let x = p before text st in
    let y = q (before ++ first) (text ++ x.0) x.2 in (
      x.0 ++ y.0,
      Appends-trans a b c x.0 y.0 x.1 y.1,
      subst (λ (t : List ℕ). RunAfter new result (before ++ (first ++ second)) t) (append_assoc text x.0 y.0)
          (subst (λ (t : List ℕ). RunAfter new result t ((text ++ x.0) ++ y.0)) (append_assoc before first second) y.2),
    )

-- after a stop, whatever follows makes no difference
carried_rest : (m : Machine) (e : Stop) (bytes text rest : List ℕ) → RunAfter m (Err e) bytes text → RunAfter m (Err e) (bytes ++ rest) text
carried_rest m (AtFault k) bytes text rest h = λ more. subst (λ (l : List ℕ). IsText (lines_of l) (text ++ fault_line m.number k) 1) (sym (append_assoc bytes rest more)) (h (rest ++ more))
carried_rest m AtWrite bytes text rest h = λ more. subst (λ (l : List ℕ). BeginsText (lines_of l) text) (sym (append_assoc bytes rest more)) (h (rest ++ more))

pub carries_rest : (old new : Machine) (a b : Option (List ℕ)) (e : Stop) (bytes rest : List ℕ) → TakesBytes old new a b (Err e) bytes → TakesBytes old new a b (Err e) (bytes ++ rest)
carries_rest old new a b e bytes rest p = λ before text st.
    let x = p before text st in
    (x.0, x.1, subst (λ (l : List ℕ). RunAfter new (Err e) l (text ++ x.0)) (append_assoc before bytes rest) (carried_rest new e (before ++ bytes) (text ++ x.0) rest x.2))

pub carries_none : (m : Machine) (a : Option (List ℕ)) → TakesBytes m m a a (Ok tt) []
carries_none m a = λ before text st. ([], Appends-nil a, subst (λ (t : List ℕ). RunSoFar m (before ++ []) t) (sym (append-nil text)) (subst (λ (b : List ℕ). RunSoFar m b text) (sym (append-nil before)) st))

-- n letters of the bytes that are left
pub over_letters : (old mid new : Machine) (a b : Option (List ℕ)) (bytes : List ℕ) (at n : ℕ) → TakesBytes old mid a b (Ok tt) (take at bytes) → HasNoEnd (take n (take (length bytes - at) (drop at bytes)))
    → state_of new.bank ≡ state_of mid.bank → new.number ≡ mid.number → pending_of new ≡ pending_of mid ++ take n (take (length bytes - at) (drop at bytes))
    → TakesBytes old new a b (Ok tt) (take (at + n) bytes)
over_letters old mid new a b bytes at n so_far ends state number pending =
    let part = take n (take (length bytes - at) (drop at bytes)) in
    let rest : take (length bytes - at) (drop at bytes) ≡ drop at bytes = ap (λ m. take m (drop at bytes)) (sym (length-drop at bytes)) ∙ take-length (drop at bytes) in
    let whole : take (at + n) bytes ≡ take at bytes ++ part = take-add at n bytes ∙ ap (λ l. take at bytes ++ take n l) (sym rest) in
    let next : TakesBytes mid new b b (Ok tt) part = λ before text st. ([], Appends-nil b, letters mid new before text part st ends state number pending) in
    subst (λ (l : List ℕ). TakesBytes old new a b (Ok tt) l) (sym whole) (taken_more old mid new a b b (Ok tt) (take at bytes) part so_far next)

-- a loop's step over some bytes, its stop and its end
pub turn : (old mid new : Machine) (a b c : Option (List ℕ)) (bytes : List ℕ) (i : ℕ) → i < length bytes → TakesBytes old mid a b (Ok tt) (take i bytes) → TakesBytes mid new b c (Ok tt) (get_or bytes i 0 ∷ []) → TakesBytes old new a c (Ok tt) (take (i + 1) bytes)
turn old mid new a b c bytes i h p q = subst (λ (l : List ℕ). TakesBytes old new a c (Ok tt) l) (sym (take_more bytes i 0 h)) (taken_more old mid new a b c (Ok tt) (take i bytes) (get_or bytes i 0 ∷ []) p q)

pub stop : (old mid new : Machine) (a b c : Option (List ℕ)) (e : Stop) (bytes : List ℕ) (i : ℕ) → i < length bytes → TakesBytes old mid a b (Ok tt) (take i bytes) → TakesBytes mid new b c (Err e) (get_or bytes i 0 ∷ []) → TakesBytes old new a c (Err e) bytes
stop old mid new a b c e bytes i h p q =
    let more = taken_more old mid new a b c (Err e) (take i bytes) (get_or bytes i 0 ∷ []) p q in
    let whole : (take i bytes ++ get_or bytes i 0 ∷ []) ++ drop (i + 1) bytes ≡ bytes = ap (λ l. l ++ drop (i + 1) bytes) (sym (take_more bytes i 0 h)) ∙ take-append-drop (i + 1) bytes in
    subst (λ (l : List ℕ). TakesBytes old new a c (Err e) l) whole (carries_rest old new a c e (take i bytes ++ get_or bytes i 0 ∷ []) (drop (i + 1) bytes) more)

pub done : (old new : Machine) (a b : Option (List ℕ)) (bytes : List ℕ) (i : ℕ) → length bytes ≤ i → TakesBytes old new a b (Ok tt) (take i bytes) → TakesBytes old new a b (Ok tt) bytes
done old new a b bytes i h p = subst (λ (l : List ℕ). TakesBytes old new a b (Ok tt) l) (take_all i bytes h) p

-- the text of the lines so far
pub so_far : (m : Machine) (before text : List ℕ) (st : RunSoFar m before text) → IsText st.lines text 0
so_far m before text st =
    subst (λ (l : List (List ℕ)). IsText l text 0) (append-nil st.lines)
    (subst (λ (t : List ℕ). IsText (st.lines ++ []) t 0) (append-nil text) (st.goes_on [] [] 0 (refl, refl)))

pub lines_now : (m : Machine) (before text : List ℕ) (st : RunSoFar m before text) → lines_of before ≡ st.lines ++ lines_of (pending_of m)
lines_now m before text st = ap lines_of (sym (append-nil before)) ∙ lines_so_far m before text st [] ∙ ap (λ l. st.lines ++ lines_of l) (append-nil (pending_of m))

-- nothing is pending at the end
pub nothing_left : (m : Machine) (before text : List ℕ) → RunSoFar m before text → m.line.used ≡ 0 → IsText (lines_of before) (text ++ []) 0
nothing_left m before text st e =
    let none : lines_of (pending_of m) ≡ [] = ap (λ u. lines_of (take u m.line.bytes)) e in
    subst (λ (t : List ℕ). IsText (lines_of before) t 0) (sym (append-nil text))
    (subst (λ (l : List (List ℕ)). IsText l text 0) (sym (lines_now m before text st ∙ ap (λ l. st.lines ++ l) none ∙ append-nil st.lines)) (so_far m before text st))

rest_line : (p : List ℕ) → HasNoEnd p → 0 < length p → lines_of p ≡ p ∷ []
rest_line [] h l = absurd (omega arith)
rest_line (b ∷ p) h l = lines_of-rest b p h

-- the last line has no byte 10
pub last_line : (m : Machine) (before text out : List ℕ) (status : ℕ) → RunSoFar m before text → 0 < length (pending_of m) → IsTextFrom m.number (state_of m.bank) (pending_of m ∷ []) out status → IsText (lines_of before) (text ++ out) status
last_line m before text out status st some h =
    subst (λ (l : List (List ℕ)). IsText l (text ++ out) status) (sym (lines_now m before text st ∙ ap (λ l. st.lines ++ l) (rest_line (pending_of m) st.pending some)))
    (st.goes_on (pending_of m ∷ []) out status h)

pub some_pending : (m : Machine) → (m.line.used ≡ 0 → ⊥) → 0 < length (pending_of m)
some_pending m h = let fits : m.line.used ≤ length m.line.bytes = omega (arith, m.line.full, m.line.within) in omega (arith, length-take-le m.line.used m.line.bytes fits)
