-- How a run begins and ends.
use Rattle.std.proofs.Common.{◌≡◌, ◌∙◌, ℕ, ◌+◌, Bool, true, false, eqb, ◌≤◌, List, [], ◌∷◌, ◌++◌, length, take, drop, cond, refl, sym, ap, subst, inl, inr, arith, append_assoc, append-nil, Option, Err, Some, None, IfSome}
use Rattle.std.proofs.lemmas.Bool.{ne_eqb}
use Rattle.std.proofs.lemmas.List.{take_at, take-append-drop, length-take}
use Rattle.std.specs.List.{flat_map}
use Rattle.std.specs.Io.KnownBytes.{Consumes, IsAtEnd, Appends}
use Rattle.std.proofs.KnownBytes.{Appends-trans}
use Rattle.p3_calculator.specs.declared.machine.Machine.{Machine}
use Rattle.p3_calculator.specs.declared.machine.Stop.{Stop}
use Rattle.p3_calculator.specs.declared.machine.Stop.TheVariants.{AtFault, AtWrite}
use Rattle.p3_calculator_text.specs.declared.faults.Fault.{Fault}
use Rattle.p3_calculator_text.specs.declared.faults.Fault.TheVariants.{ReadFault}
use Rattle.p3_calculator.specs.Bank.{state_of}
use Rattle.p3_calculator.specs.States.{State, no_field}
use Rattle.p3_calculator_text.specs.Lines.{lines_of}
use Rattle.p3_calculator.specs.RegisterValues.{Filled}
use Rattle.p3_calculator_text.specs.Faults.{fault_line}
use Rattle.p3_calculator.specs.Text.{IsTextFrom, IsText, rest_of, IsCutShort, RunEnds, ends}
use Rattle.p3_calculator.specs.RunSoFar.{RunSoFar, TakesBytes, Ended, EndedAt, StopsAtFailure, Finishes, HasNoEnd, HaveNoEnd, ended}
use Rattle.p3_calculator.proofs.TakenBytes.{pending_of, so_far, lines_now, front_rest}

pub begin : (m : Machine) → m.number ≡ 1 → m.line.used ≡ 0 → state_of m.bank ≡ no_field → RunSoFar m [] []
begin m number used state =
    let none : pending_of m ≡ [] = ap (λ u. take u m.line.bytes) used in
    record {
      lines = [];
      each = tt;
      bytes_are = sym none;
      pending = subst HasNoEnd (sym none) tt;
      number = number;
      filled = subst Filled (sym state) tt;
      goes_on = λ ls more status h. subst (λ (n : ℕ). IsTextFrom n no_field ls more status) number (subst (λ (s : State). IsTextFrom m.number s ls more status) state h);
    }

ends-append : (a b : List ℕ) → ends (a ++ b) ≡ ends a + ends b
ends-append [] b = omega arith
ends-append (x ∷ a) b = omega (arith, ends-append a b)

ends-none : (a : List ℕ) → HasNoEnd a → ends a ≡ 0
ends-none [] h = refl
ends-none (x ∷ a) h = ap (λ t. cond t 1 0 + ends a) (ne_eqb x 10 h.0) ∙ omega (arith, ends-none a h.1)

ends-lines : (lines : List (List ℕ)) → HaveNoEnd lines → ends (flat_map ended lines) ≡ length lines
ends-lines [] h = refl
ends-lines (line ∷ lines) h = omega (arith, ends-append (ended line) (flat_map ended lines), ends-append line (10 ∷ []), ends-none line h.0, ends-lines lines h.1)

pub ends_so_far : (m : Machine) (before text : List ℕ) (st : RunSoFar m before text) → ends before ≡ length st.lines
ends_so_far m before text st = ap ends st.bytes_are ∙ omega (arith, ends-append (flat_map ended st.lines) (pending_of m), ends-lines st.lines st.each, ends-none (pending_of m) st.pending)

rest_of-none : (a : List ℕ) → HasNoEnd a → rest_of a ≡ a
rest_of-none [] h = refl
rest_of-none (x ∷ a) h = ap (λ n. cond (eqb n 0) (x ∷ a) (rest_of a)) (ends-none (x ∷ a) h)

rest_of-line : (line more : List ℕ) → rest_of (line ++ 10 ∷ more) ≡ rest_of more
rest_of-line [] more = ap (λ b. cond b (10 ∷ more) (rest_of more)) (ne_eqb (1 + ends more) 0 (λ e. absurd (omega arith)))
rest_of-line (x ∷ line) more =
    let some : ends (x ∷ line ++ 10 ∷ more) ≡ 0 → ⊥ = λ e. absurd (omega (arith, ends-append (x ∷ line) (10 ∷ more))) in
    ap (λ b. cond b (x ∷ line ++ 10 ∷ more) (rest_of (line ++ 10 ∷ more))) (ne_eqb (ends (x ∷ line ++ 10 ∷ more)) 0 some) ∙ rest_of-line line more

rest_of-lines : (lines : List (List ℕ)) (rest : List ℕ) → HasNoEnd rest → rest_of (flat_map ended lines ++ rest) ≡ rest
rest_of-lines [] rest h = rest_of-none rest h
rest_of-lines (line ∷ lines) rest h =
    ap rest_of (append_assoc (ended line) (flat_map ended lines) rest ∙ append_assoc line (10 ∷ []) (flat_map ended lines ++ rest))
    ∙ rest_of-line line (flat_map ended lines ++ rest) ∙ rest_of-lines lines rest h

-- a read failed
pub cut_short : (m : Machine) (before text : List ℕ) → RunSoFar m before text → IsCutShort before (text ++ fault_line m.number ReadFault)
cut_short m before text st =
    let e = ends_so_far m before text st in
    let first : take (ends before) (lines_of before) ≡ st.lines = ap (λ n. take n (lines_of before)) e ∙ ap (take (length st.lines)) (lines_now m before text st) ∙ take_at st.lines (lines_of (pending_of m)) (length st.lines) refl in
    let number : m.number ≡ ends before + 1 = omega (arith, st.number) in
    let short : length (rest_of before) ≤ 256 = omega (arith, ap length (ap rest_of st.bytes_are ∙ rest_of-lines st.lines (pending_of m) st.pending), length-take m.line.used m.line.bytes, m.line.within) in
    (text, subst (λ (l : List (List ℕ)). IsText l text 0) (sym first) (so_far m before text st), short, ap (λ n. text ++ fault_line n ReadFault) number)

pub ends_so : (r w x y : Bool) (end : Type 0) (bytes text : List ℕ) (status : ℕ) → r ≡ x → w ≡ y → RunEnds x y end bytes text status → RunEnds r w end bytes text status
ends_so r w x y end bytes text status p q h = subst (λ (v : Bool). RunEnds v w end bytes text status) (sym p) (subst (λ (v : Bool). RunEnds x v end bytes text status) (sym q) h)

-- the text and how the run ends, for some bytes that were read
abbrev pub Outlook : Bool → Bool → Type 0 → Option (List ℕ) → Option (List ℕ) → List ℕ → ℕ → Type 0
Outlook r w end sink_old sink_new bytes status = (text : List ℕ) × Appends sink_old sink_new text × RunEnds r w end bytes text status

pub after_cut : (m : Machine) (r f g : Bool) (end : Type 0) (a b c : Option (List ℕ)) (bytes text : List ℕ) (status : ℕ) → r ≡ true → f ≡ false → RunSoFar m bytes text → Appends a b text
    → Ended b c f g (fault_line m.number ReadFault) 1 status → Outlook r g end a c bytes status
after_cut m r f g end a b c bytes text status er ef st known h =
    let line = fault_line m.number ReadFault in
    elim h [
      | inl p ↦ (
        text ++ line,
        Appends-trans a b c text line known p.2,
        ends_so r g true false end bytes (text ++ line) status er (p.1 ∙ ef) (p.0, cut_short m bytes text st),
      )
      | inr p ↦
          let front = take p.2.0 line in
          let joined : (text ++ front) ++ drop p.2.0 line ≡ text ++ line = append_assoc text front (drop p.2.0 line) ∙ ap (λ l. text ++ l) (take-append-drop p.2.0 line) in (
            text ++ front,
            Appends-trans a b c text front known p.2.2,
            ends_so r g true true end bytes (text ++ front) status er p.1
                (p.0, (drop p.2.0 line, subst (λ (l : List ℕ). IsCutShort bytes l) (sym joined) (cut_short m bytes text st))),
          )
    ]

pub after_finish : (m : Machine) (r f g : Bool) (end : Type 0) (a b c : Option (List ℕ)) (bytes text : List ℕ) (status : ℕ) → r ≡ false → f ≡ false → end → RunSoFar m bytes text → Appends a b text
    → Finishes m b c f g status → Outlook r g end a c bytes status
after_finish m r f g end a b c bytes text status er ef at st known h =
    let x = h bytes text st in
    let all = Appends-trans a b c text x.0 known x.1 in
    elim x.2 [
      | inl p ↦ (text ++ x.0, all, ends_so r g false false end bytes (text ++ x.0) status er (p.0 ∙ ef) (inl (at, p.1)))
      | inr p ↦ (text ++ x.0, all, ends_so r g false true end bytes (text ++ x.0) status er p.1 (p.0, inl (at, p.2)))
    ]

-- after some more bytes
after_fault : (old new : Machine) (k : Fault) (r f g h : Bool) (end : Type 0) (a b c d : Option (List ℕ)) (bytes more text : List ℕ) (status : ℕ) → r ≡ false → f ≡ false → g ≡ f → RunSoFar old bytes text → Appends a b text
    → TakesBytes old new b c (Err (AtFault k)) more → Ended c d g h (fault_line new.number k) 1 status → Outlook r h end a d (bytes ++ more) status
after_fault old new k r f g h end a b c d bytes more text status er ef eg st known takes e =
    let line = fault_line new.number k in
    let x = takes bytes text st in
    let before = text ++ x.0 in
    let all_written = Appends-trans a b c text x.0 known x.1 in
    elim e [
      | inl p ↦ (
        before ++ line,
        Appends-trans a c d before line all_written p.2,
        ends_so r h false false end (bytes ++ more) (before ++ line) status er (p.1 ∙ eg ∙ ef) (inr (p.0, x.2)),
      )
      | inr p ↦ (
        before ++ take p.2.0 line,
        Appends-trans a c d before (take p.2.0 line) all_written p.2.2,
        ends_so r h false true end (bytes ++ more) (before ++ take p.2.0 line) status er p.1 (p.0, inr (λ m. (drop p.2.0 line, 1, subst (λ (t : List ℕ). IsText (lines_of ((bytes ++ more) ++ m)) t 1) (sym (front_rest before line p.2.0)) (x.2 m)))),
      )
    ]

after_stop : (old new : Machine) (r g : Bool) (end : Type 0) (a b c : Option (List ℕ)) (bytes more text : List ℕ) → r ≡ false → g ≡ true → RunSoFar old bytes text → Appends a b text
    → TakesBytes old new b c (Err AtWrite) more → Outlook r g end a c (bytes ++ more) 2
after_stop old new r g end a b c bytes more text er eg st known takes =
    let x = takes bytes text st in (
      text ++ x.0,
      Appends-trans a b c text x.0 known x.1,
      ends_so r g false true end (bytes ++ more) (text ++ x.0) 2 er eg (refl, inr x.2),
    )

pub after_err : (old new : Machine) (e : Stop) (r f g h : Bool) (end : Type 0) (a b c d : Option (List ℕ)) (bytes more text : List ℕ) (status : ℕ) → r ≡ false → f ≡ false → StopsAtFailure (Err e) f g → RunSoFar old bytes text → Appends a b text
    → TakesBytes old new b c (Err e) more → EndedAt e new.number c d g h status → Outlook r h end a d (bytes ++ more) status
after_err old new (AtFault k) r f g h end a b c d bytes more text status er ef eg st known takes e = after_fault old new k r f g h end a b c d bytes more text status er ef eg st known takes e
after_err old new AtWrite r f g h end a b c d bytes more text status er ef eg st known takes e =
    let out = after_stop old new r h end a b c bytes more text er (e.1 ∙ eg) st known takes in
    subst (λ (s : ℕ). Outlook r h end a d (bytes ++ more) s) (sym e.0) (subst (λ (o : Option (List ℕ)). Outlook r h end a o (bytes ++ more) 2) (sym e.2) out)

pub whole : (old new : Option (List ℕ)) (bytes text : List ℕ) (status : ℕ) → Consumes old new bytes → RunEnds false false (IsAtEnd new) bytes text status → IfSome old (λ input. IsText (lines_of input) text status)
whole None new bytes text status p h = tt
whole (Some input) None bytes text status p h = absurd p
whole (Some input) (Some rest) bytes text status p h = elim h [
  | inl q ↦ subst (λ (l : List ℕ). IsText (lines_of l) text status) (sym (p ∙ ap (λ l. bytes ++ l) q.0 ∙ append-nil bytes)) q.1
  | inr q ↦ subst (λ (l : List ℕ). IsText (lines_of l) text status) (sym p) (rw q.0 (q.1 rest))
]
