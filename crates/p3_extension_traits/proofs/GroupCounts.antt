-- How many groups of n items hold so many items.
use Rattle.std.proofs.Common.{◌≡◌, ◌<◌, ◌≤◌, ◌+◌, ◌-◌, ◌*◌, ◌/◌, ◌%◌, ℕ, min, arith, Bool, true, false, Option, Some, None, refl, subst, sym}
use Rattle.std.specs.Prelude.{IfSome, option_map}
use Rattle.std.specs.Iterator.{Count, UpTo, count_map, count_unless}
use Rattle.std.specs.Iterator.SizeHint.{IsWithinCount}
use Rattle.std.proofs.lemmas.Nat.{div-add-mod', le-div}
use Rattle.std.proofs.lemmas.Grind.{div_ceil_times}
use Rattle.std.proofs.Math.Nat.{mod-lt, lt_of_mul-lt-mul_right}
use Rattle.p3_extension_traits.specs.Streams.{group_count}

module _ (n : ℕ) (z : 0 < n) where
  -- the groups hold the items, and one group less would not
  bounds : (m : ℕ) → (m ≤ group_count n m * n) × (group_count n m * n < m + n)
  bounds m =
      let split : (m + (n - 1)) / n * n + (m + (n - 1)) % n ≡ m + (n - 1) = div-add-mod' (m + (n - 1)) n in
      let short : (m + (n - 1)) % n < n = mod-lt (m + (n - 1)) z in
      (omega (arith, split, short, z), omega (arith, split, short, z))

  more : (k : ℕ) → (k + 1) * n ≡ k * n + n
  more k = omega arith

  -- whatever counts groups within the same bounds is that count
  one_count : (m k : ℕ) → m ≤ k * n → k * n < m + n → k ≡ group_count n m
  one_count m k low high =
      let b = bounds m in
      let g = group_count n m in
      let below : k < g + 1 = lt_of_mul-lt-mul_right n (omega (arith, more g, b.0, high)) in
      let above : g < k + 1 = lt_of_mul-lt-mul_right n (omega (arith, more k, b.1, low)) in
      omega (arith, below, above)

  -- `div_ceil` counts the groups
  pub div_ceil-groups : (m : ℕ) → m / n + min 1 (m % n) ≡ group_count n m
  div_ceil-groups m = let d = div_ceil_times m n z in one_count m (m / n + min 1 (m % n)) d.0 d.1

-- more items take no fewer groups
more_groups : (n a b : ℕ) → 0 < n → a ≤ b → group_count n a ≤ group_count n b
more_groups n a b z h = le-div ((a + (n - 1)) / n) (b + (n - 1)) n z (omega (arith, div-add-mod' (a + (n - 1)) n, h))

-- the upper hint of a stream of groups, from that of its items
pub hint_upper : (n : ℕ) → 0 < n → (over : Bool) (c : Count) (items groups : Option ℕ) → (over ≡ true → groups ≡ Some 0) → (over ≡ false → groups ≡ option_map (group_count n) items)
    → IfSome items (UpTo c) → IfSome groups (UpTo (count_unless over (count_map (group_count n) c)))
hint_upper n z true c items groups ended goes most = subst (λ r. IfSome r (UpTo (count_unless true (count_map (group_count n) c)))) (sym (ended refl)) (tt, omega arith)
hint_upper n z false c None groups ended goes most = subst (λ r. IfSome r (UpTo (count_unless false (count_map (group_count n) c)))) (sym (goes refl)) tt
hint_upper n z false c (Some m) groups ended goes most =
    subst (λ r. IfSome r (UpTo (count_unless false (count_map (group_count n) c)))) (sym (goes refl)) (most.0, more_groups n c.bound m z most.1)

-- the lower hint, likewise
pub hint_lower : (n : ℕ) → 0 < n → (over : Bool) (c : Count) (items groups : ℕ) → (over ≡ true → groups ≡ 0) → (over ≡ false → groups ≡ group_count n items)
    → IsWithinCount items c → IsWithinCount groups (count_unless over (count_map (group_count n) c))
hint_lower n z true c items groups ended goes least = λ f. omega (arith, ended refl)
hint_lower n z false c items groups ended goes least = λ f. subst (λ r. r ≤ group_count n c.bound) (sym (goes refl)) (more_groups n items c.bound z (least f))
