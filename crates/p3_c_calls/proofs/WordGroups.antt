-- Lists of words as the groups of values, and what a loop over the groups does.
use Rattle.std.proofs.Common.{◌≡◌, ◌+◌, ◌-◌, ◌<◌, ◌≤◌, ◌%◌, ℕ, zero, suc, List, [], ◌∷◌, ◌++◌, length, take, drop, refl, sym, ap, ap₂, ◌∙◌, arith, append-nil, length-append}
use Rattle.std.proofs.lemmas.Grind.{flat_map-append}
use Rattle.std.proofs.lemmas.List.{drop-drop}
use Rattle.std.proofs.lemmas.Slice.{take-put_mid, drop-put_mid}
use borrow.Rule.Slice.PartMut.{put_mid}
use Rattle.p3_theory.specs.Bases.Coordinates.{flattened}
use Rattle.p3_theory.specs.Bases.CoordinateLemmas.{flattened-push, divided_front}
use Rattle.p3_theory.specs.Lists.PairedLists.{zip_with}
use Rattle.p3_theory.specs.Rings.Ring.{Ops, RingLaws}
use Rattle.p3_theory.specs.Rings.DotProduct.{dot}

-- a group more lies whole in a list of whole groups
pub group-fits : (n len i : ℕ) → 0 < n → (len - i) % n ≡ 0 → i < len → i + n ≤ len
group-fits n len i some whole inside =
    let front = divided_front (len - i) n some whole (omega (arith, inside)) in
    omega (arith, front.0, inside)

-- and the rest is of whole groups
pub rest-whole : (n len i : ℕ) → 0 < n → (len - i) % n ≡ 0 → i < len → (len - (i + n)) % n ≡ 0
rest-whole n len i some whole inside =
    let front = divided_front (len - i) n some whole (omega (arith, inside)) in
    let rest : len - (i + n) ≡ len - i - n = omega arith in
    ap (λ m. m % n) rest ∙ front.1

module _ {E T : Type 0} (group : E → List T) (n : ℕ) where
  -- one more value is read, and its words come back as others
  pub read-more : (xs : List E) (x : E) (now part old : List T) (i k : ℕ) → k ≡ n → i + n ≤ length now → length part ≡ n → group x ≡ take k (drop i now)
      → flattened group xs ++ drop i now ≡ old → flattened group (xs ++ x ∷ []) ++ drop (i + n) (put_mid i k now part) ≡ old
  read-more xs x now part old i k e fits long is h =
      ap (λ l. flattened group (xs ++ x ∷ []) ++ l) (drop-put_mid i k now part (i + n) (omega (arith, e)) (omega (arith, fits)) (omega (arith, long, e)) ∙ sym (drop-drop n i now))
      ∙ flattened-push group n xs x (drop i now) old (is ∙ ap (λ m. take m (drop i now)) e) h

  -- one more value of a list that is only read
  pub read-on : (xs : List E) (x : E) (from old : List T) (i k : ℕ) → k ≡ n → group x ≡ take k (drop i from) → flattened group xs ++ drop i from ≡ old
      → flattened group (xs ++ x ∷ []) ++ drop (i + n) from ≡ old
  read-on xs x from old i k e is h =
      ap (λ l. flattened group (xs ++ x ∷ []) ++ l) (sym (drop-drop n i from)) ∙ flattened-push group n xs x (drop i from) old (is ∙ ap (λ m. take m (drop i from)) e) h

  -- the words of one more value are written
  pub written-group : (ys : List E) (y : E) (now part : List T) (i k : ℕ) → i + n ≤ length now → length part ≡ n → part ≡ group y → take i now ≡ flattened group ys
      → take (i + n) (put_mid i k now part) ≡ flattened group (ys ++ y ∷ [])
  written-group ys y now part i k fits long is h =
      take-put_mid i k now part (i + n) (omega (arith, long)) (omega (arith, fits)) ∙ ap₂ (λ p q. p ++ q) h is
      ∙ sym (flat_map-append group ys (y ∷ []) ∙ ap (λ l. flattened group ys ++ l) (append-nil (group y)))

-- the values at one index more
pub zip-more : {A B C : Type 0} (f : A → B → C) (xs : List A) (ys : List B) (x : A) (y : B) → length xs ≡ length ys
    → zip_with f (xs ++ x ∷ []) (ys ++ y ∷ []) ≡ zip_with f xs ys ++ f x y ∷ []
zip-more f [] [] x y e = refl
zip-more f [] (b ∷ ys) x y e = absurd (omega (arith, e))
zip-more f (a ∷ xs) [] x y e = absurd (omega (arith, e))
zip-more f (a ∷ xs) (b ∷ ys) x y e = ap (λ l. f a b ∷ l) (zip-more f xs ys x y (omega (arith, e)))

-- the words of the values from an index on are those of its value and of the rest
pub words-left : {E T : Type 0} (group : E → List T) (n : ℕ) → ((x : E) → length (group x) ≡ n) → (xs : List E) (i : ℕ) → i < length xs
    → length (flattened group (drop i xs)) ≡ n + length (flattened group (drop (i + 1) xs))
words-left group n widths [] i h = absurd (omega (arith, h))
words-left group n widths (x ∷ xs) zero h = length-append (group x) (flattened group xs) ∙ ap (λ m. m + length (flattened group xs)) (widths x)
words-left group n widths (x ∷ xs) (suc i) h =
    let next : suc i + 1 ≡ suc (i + 1) = omega arith in
    words-left group n widths xs i (omega (arith, h)) ∙ ap (λ j. n + length (flattened group (drop j (x ∷ xs)))) (sym next)

-- a bound on a number is one on the same number
pub at-most : (a b c : ℕ) → c ≡ b → a ≤ b → a ≤ c
at-most a b c e h = omega (arith, e, h)

pub below : (a b c : ℕ) → c ≡ b → a < c → a < b
below a b c e h = omega (arith, e, h)

-- a dot product with one index more
pub dot-more : {A : Type 0} {O : Ops A} (l : RingLaws O) (xs ys : List A) (x y : A) → length xs ≡ length ys → dot O (xs ++ x ∷ []) (ys ++ y ∷ []) ≡ O.add (dot O xs ys) (O.mul x y)
dot-more {O = O} l [] [] x y e = l.add_comm (O.mul x y) O.zero
dot-more l [] (b ∷ ys) x y e = absurd (omega (arith, e))
dot-more l (a ∷ xs) [] x y e = absurd (omega (arith, e))
dot-more {O = O} l (a ∷ xs) (b ∷ ys) x y e = ap (O.add (O.mul a b)) (dot-more l xs ys x y (omega (arith, e))) ∙ sym (l.add_assoc _ _ _)
