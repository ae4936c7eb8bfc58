-- Values of an extension as the lists of their coefficients.
use Rattle.std.proofs.Common.{◌≡◌, ℕ, zero, suc, List, [], ◌∷◌, ◌++◌, length, map, get_or, refl, sym, ap, ap₂, ◌∙◌, arith, length-append}
use Rattle.std.specs.Prelude.{All, ⊤}
use Rattle.std.proofs.lemmas.List.Elements.{All-nil, All-cons, All-head, All-tail, All-map}
use Rattle.p3_theory.specs.Rings.Ring.{Ops, Invertible, IsInverse}
use Rattle.p3_theory.specs.Rings.DotProduct.{dot}
use Rattle.p3_theory.specs.Bases.Coordinates.{flattened}
use Rattle.p3_theory.specs.Lists.PairedLists.{zip_with}
use Rattle.p3_theory.specs.Polynomials.Polynomial.{embed, quotient_add, quotient_mul, quotient_ops}
use Rattle.p3_theory.specs.FrobeniusMaps.Frobenius.{iterate}
use Rattle.p3_theory.specs.FrobeniusMaps.FrobeniusTable.{frobenius_list}
use Rattle.p3_helpers.specs.Inverses.{InverseEach}
use Rattle.p3_extension.specs.Values.{value_of, same_value, ext_ops}
use Rattle.p3_extension.specs.Conjugates.{frobenius_map}
use Rattle.p3_extension.specs.declared.extension.ext_field.ExtField.{ExtField}
use Rattle.p3_c_words.specs.Words.{Words}
use Rattle.p3_c_words.specs.Calls.{Refused}
use Rattle.p3_c_words.specs.declared.refusal.Refusal.{Refusal}
use Rattle.p3_c_words.specs.declared.refusal.Refusal.TheVariants.{Length, Word, NoInverse, NoRoot, LogSize, Memory, Step, Radix}
use Rattle.p3_c_calls.specs.ExtensionCalls.{AreAllWords, HasInverse}

-- a refusal for a value without an inverse, or for memory, where all else was tested before
pub tested : {L W I J : Type 0} (e : Refusal) → L → W → (J → I) → Refused ⊤ ⊤ ⊤ I ⊤ e → Refused ⊤ L W J ⊤ e
tested LogSize l w f h = h
tested Length l w f h = absurd (h.1 tt)
tested Word l w f h = absurd (h.2 tt)
tested NoInverse l w f h = (tt, l, w, λ j. h.3 (f j))
tested NoRoot l w f h = h
tested Memory l w f h = (tt, l, w, tt)
tested Step l w f h = h
tested Radix l w f h = h

-- groups of one width take as many words
pub length-groups : {E T : Type 0} (group : E → List T) (n : ℕ) → ((x : E) → length (group x) ≡ n) → (xs ys : List E) → length xs ≡ length ys
    → length (flattened group xs) ≡ length (flattened group ys)
length-groups group n widths [] [] e = refl
length-groups group n widths [] (y ∷ ys) e = absurd (omega (arith, e))
length-groups group n widths (x ∷ xs) [] e = absurd (omega (arith, e))
length-groups group n widths (x ∷ xs) (y ∷ ys) e =
    let rest = length-groups group n widths xs ys (omega (arith, e)) in
    omega (arith, length-append (group x) (flattened group xs), length-append (group y) (flattened group ys), widths x, widths y, rest)

module _ {T A E : Type 0} (D : ℕ) (R : Words T A) (list : E → List A) where
  abbrev pub group : E → List T
  group x = map R.word (list x)

  words-of-lists : (xs : List E) → flattened group xs ≡ flattened (map R.word) (map list xs)
  words-of-lists [] = refl
  words-of-lists (x ∷ xs) = ap (λ l. group x ++ l) (words-of-lists xs)

  -- words of values are words of their lists
  pub are-words : ((x : E) → length (list x) ≡ D) → (xs : List E) (ws : List T) → flattened group xs ≡ ws → AreAllWords D R (map list xs) ws
  are-words sized xs ws e = (All-map (λ l. length l ≡ D) list xs (λ i d h. sized (get_or xs i d)), sym e ∙ words-of-lists xs)

  -- what is done with each value is done with its list
  pub each-list : (f : E → E) (h : List A → List A) → ((x : E) → list (f x) ≡ h (list x)) → (xs : List E) → flattened group (map f xs) ≡ flattened (map R.word) (map h (map list xs))
  each-list f h e [] = refl
  each-list f h e (x ∷ xs) = ap₂ (λ a b. a ++ b) (ap (map R.word) (e x)) (each-list f h e xs)

  -- what is done with two values is done with their lists
  pub pair-lists : (f : E → E → E) (h : List A → List A → List A) → ((x y : E) → list (f x y) ≡ h (list x) (list y)) → (xs ys : List E)
      → flattened group (zip_with f xs ys) ≡ flattened (map R.word) (zip_with h (map list xs) (map list ys))
  pair-lists f h e [] ys = refl
  pair-lists f h e (x ∷ xs) [] = refl
  pair-lists f h e (x ∷ xs) (y ∷ ys) = ap₂ (λ a b. a ++ b) (ap (map R.word) (e x y)) (pair-lists f h e xs ys)

-- the coefficients of a value
abbrev pub coefficients : {F S A : Type 0} {D : ℕ} → ExtField F D S A → List A
coefficients x = x.value

module _ {F S A : Type 0} (D : ℕ) (o : Ops A) (f : List A) where
  pub dot-lists : (xs ys : List (ExtField F D S A)) → (dot (ext_ops o f) xs ys).value ≡ dot (quotient_ops o D f) (map coefficients xs) (map coefficients ys)
  dot-lists [] ys = refl
  dot-lists (x ∷ xs) [] = refl
  dot-lists (x ∷ xs) (y ∷ ys) = ap (quotient_add o D (quotient_mul o D f x.value y.value)) (dot-lists xs ys)

  pub turned-list : (phi : List A) (n : ℕ) (x : ExtField F D S A) → (iterate (frobenius_map o f phi) n x).value ≡ iterate (frobenius_list o D f phi) n x.value
  turned-list phi zero x = refl
  turned-list phi (suc n) x = turned-list phi n (frobenius_map o f phi x)

  -- each product is one
  pub inverse-lists : (xs ys : List (ExtField F D S A)) → length ys ≡ length xs → InverseEach (ext_ops o f) xs ys
      → zip_with (quotient_mul o D f) (map coefficients xs) (map coefficients ys) ≡ map (λ _. embed o D o.one) (map coefficients xs)
  inverse-lists [] ys e h = refl
  inverse-lists (x ∷ xs) [] e h = absurd (omega (arith, e))
  inverse-lists (x ∷ xs) (y ∷ ys) e h =
      ap₂ (λ z zs. z ∷ zs) (ap coefficients (h x 0 (omega arith))) (inverse-lists xs ys (omega (arith, e)) (λ d i inside. h d (suc i) (omega (arith, inside))))

  -- a list with an inverse is a value with one
  pub value-invertible : (x : ExtField F D S A) (y : List A) → length y ≡ D → IsInverse (quotient_ops o D f) x.value y → Invertible (ext_ops o f) x
  value-invertible x y l e = (value_of y l, same_value _ _ e)

  pub all-invertible : {T : Type 0} (R : Words T A) (xs : List (ExtField F D S A)) → All (HasInverse D (quotient_ops o D f) R) (map coefficients xs) → All (Invertible (ext_ops o f)) xs
  all-invertible R [] h = All-nil (Invertible (ext_ops o f))
  all-invertible R (x ∷ xs) h =
      let has = HasInverse D (quotient_ops o D f) R in
      let first = All-head has x.value (map coefficients xs) h in
      All-cons (Invertible (ext_ops o f)) x xs (value-invertible x first.0 first.1 first.2) (all-invertible R xs (All-tail has x.value (map coefficients xs) h))
