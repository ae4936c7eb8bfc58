-- What one read and one write move.
use Rattle.std.proofs.Common.{◌≡◌, ◌-◌, ◌≤◌, ◌<◌, ◌∙◌, length, drop, take, ℕ, ◌+◌, List, [], ◌++◌, min, sym, ap, subst, arith, Bool, true, nat_eq, nat_lt, Option, if◌then◌else◌, ◌&&◌, Result, Ok, Err, OnErr}
use Rattle.std.proofs.lemmas.List.{take_at, take-append-le, take-append-drop, drop-drop, drop_all, length-take, length-take-le, length-drop, length-append}
use Rattle.std.proofs.Math.Seq.{take-add, take-length, take-append-add}
use Rattle.std.proofs.lemmas.Grind.{common_steps}
use Rattle.std.proofs.KnownBytes.{Appends-trans}
use Rattle.std.specs.Io.KnownBytes.{Appends}
use Rattle.p3_calculator_text.specs.Streams.{AppendsFront}

-- the front goes into the buffer, and the rest is left
pub moved : (bytes buf new : List ℕ) (at n : ℕ) → at + n ≤ length bytes → new ≡ take (at + n - at) (drop at bytes) → drop at bytes ≡ take n (new ++ drop n buf) ++ drop (at + n) bytes
moved bytes buf new at n h same =
    let k : at + n - at ≡ n = omega arith in
    let same2 : new ≡ take n (drop at bytes) = same ∙ ap (λ m. take m (drop at bytes)) k in
    let room : n ≤ length (drop at bytes) = omega (arith, length-drop at bytes) in
    let len : length new ≡ n = ap length same2 ∙ length-take-le n (drop at bytes) room in
    sym (ap (λ l. l ++ drop (at + n) bytes) (take_at new (drop n buf) n len ∙ same2) ∙ ap (λ l. take n (drop at bytes) ++ l) (sym (drop-drop n at bytes)) ∙ take-append-drop n (drop at bytes))

-- some more was written
pub more_written : (a b c : Option (List ℕ)) (bytes : List ℕ) (at n : ℕ) → Appends a b (take at bytes) → at ≤ length bytes → n ≤ length (take (length bytes - at) (drop at bytes)) → Appends b c (take n (take (length bytes - at) (drop at bytes)))
    → (at + n ≤ length bytes) × Appends a c (take (at + n) bytes)
more_written a b c bytes at n first within count second =
    let len = length-drop at bytes in
    let all : take (length bytes - at) (drop at bytes) ≡ drop at bytes = ap (λ m. take m (drop at bytes)) (sym len) ∙ take-length (drop at bytes) in
    let count2 : n ≤ length (drop at bytes) = subst (λ l. n ≤ length l) all count in
    let second2 = subst (λ (l : List ℕ). Appends b c (take n l)) all second in
    (omega arith, rw (take-add at n bytes) (Appends-trans a b c _ _ first second2))

pub not_stopped : (n len : ℕ) (old new first : Bool) → (n ≡ 0 → ⊥) → new ≡ (if nat_eq n 0 && nat_lt 0 len then true else old) → old ≡ first → new ≡ first
not_stopped n len old new first h e f = grind (arith, common_steps)

-- none was read, although there was room: nothing is left
pub ended : (bytes buf new : List ℕ) (at n piece len have : ℕ) → n ≡ 0 → n ≡ min have (len - at) → have ≡ min piece (length buf) → 0 < piece → len ≡ length bytes → length new ≡ length (take n buf)
    → 0 < length (new ++ drop n buf) → at ≤ length bytes → drop (at + n) bytes ≡ []
ended bytes buf new at n piece len have z e f p l same room within =
    let le : length bytes ≤ at + n = omega (arith, length-append new (drop n buf), length-drop n buf, length-take n buf) in
    drop_all (at + n) bytes le

pub front_more : (a b : Option (List ℕ)) (xs ys : List ℕ) → AppendsFront a b xs → AppendsFront a b (xs ++ ys)
front_more a b xs ys h = (h.0, omega (arith, length-append xs ys, h.1), rw (take-append-le h.0 xs ys h.1) h.2)

pub front_after : (a b c : Option (List ℕ)) (xs ys : List ℕ) → Appends a b xs → AppendsFront b c ys → AppendsFront a c (xs ++ ys)
front_after a b c xs ys p h = (length xs + h.0, omega (arith, length-append xs ys, h.1), rw (take-append-add xs ys h.0) (Appends-trans a b c xs _ p h.2))

pub on_err : {T E : Type 0} (r : Result T E) (P : Type 0) → P → OnErr r P
on_err (Ok x) P p = tt
on_err (Err e) P p = p

pub when_err : {T E : Type 0} (r : Result T E) (P Q : Type 0) → (P → Q) → OnErr r P → OnErr r Q
when_err (Ok x) P Q f p = tt
when_err (Err e) P Q f p = f p
