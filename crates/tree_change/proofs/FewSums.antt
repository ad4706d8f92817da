-- The looks of several trees, and what changes in them, summed up.
use Rattle.std.proofs.Common.{◌≡◌, ℕ, ◌+◌, ◌*◌, ◌≤◌, Bool, true, false, List, [], ◌∷◌, refl, arith, if◌then◌else◌}
use Rattle.std.proofs.lemmas.List.Sorted.{sum_by-IsPermutation}
use Rattle.std.specs.Prelude.{map}
use Rattle.std.specs.List.{AllByRecursion, filter, fold, sum_by}
use Rattle.std.specs.List.Sorted.{IsPermutation}
use Rattle.live_index.specs.declared.live.Live.{Live}
use Rattle.node_reader.specs.Stored.{stored_in}
use Rattle.tree_laws.specs.VisitsLaw.{entries_at}
use Rattle.tree_change.specs.AllTrees.{with_parts}
use Rattle.tree_change.specs.LooksLaw.{entries_of}
use Rattle.tree_change.specs.Walks.{Parts, Side}
use Rattle.tree_change.proofs.MovesFew.{fewer, those}
use Rattle.tree_change.proofs.TreeSums.{all_cost, joined_cost}

-- the entries of pairs in another order are as many
folded : (side : Side) (start : ℕ) (lives : List Live)
    → fold (λ n (live : Live). n + entries_at (stored_in side.image side.chunks side.sup.nodesize) live.address) start lives
    ≡ start + entries_of side lives
folded side start [] = omega arith
folded side start (live ∷ lives) =
    let here = entries_at (stored_in side.image side.chunks side.sup.nodesize) live.address in
    joins start here (entries_of side lives) _ (folded side (start + here) lives)
  where
    joins : (start here rest all : ℕ) → all ≡ (start + here) + rest → all ≡ start + (here + rest)
    joins start here rest all x = omega (arith, x)

pub entries_permuted : (side : Side) (some more : List Live) → IsPermutation some more → entries_of side more ≡ entries_of side some
entries_permuted side some more permuted =
    let each = λ (live : Live). entries_at (stored_in side.image side.chunks side.sup.nodesize) live.address in
    joins (sum_by each more) (sum_by each some) (entries_of side more) (entries_of side some) (folded side 0 more) (folded side 0 some)
    (sum_by-IsPermutation each some more permuted)
  where
    joins : (a b x y : ℕ) → a ≡ 0 + x → b ≡ 0 + y → a ≡ b → x ≡ y
    joins a b x y p q r = omega (arith, p, q, r)

-- those of pairs are as many by another side, where those of each are
pub entries_as : (one other : Side) (lives : List Live)
    → AllByRecursion (λ (live : Live). entries_at (stored_in one.image one.chunks one.sup.nodesize) live.address
    ≡ entries_at (stored_in other.image other.chunks other.sup.nodesize) live.address) lives
    → entries_of one lives ≡ entries_of other lives
entries_as one other [] each = refl
entries_as one other (live ∷ lives) each = joins _ _ _ _ each.0 (entries_as one other lives each.1)
  where
    joins : (a b x y : ℕ) → a ≡ b → x ≡ y → a + x ≡ b + y
    joins a b x y p q = omega (arith, p, q)

pub all_mapped : {A B : Type 0} (P : B → Type 0) (make : A → B) (list : List A) → AllByRecursion (λ a. P (make a)) list → AllByRecursion P (map make list)
all_mapped P make [] all = tt
all_mapped P make (a ∷ list) all = (all.0, all_mapped P make list all.1)

pub fewer_as : {n m l : ℕ} → m ≡ n → n ≤ l → m ≤ l
fewer_as {n} {m} {l} x y = omega (arith, x, y)

pub most : {n m l : ℕ} → n ≤ m → m ≤ l → n ≤ l
most {n} {m} {l} x y = omega (arith, x, y)

pub wide : (a e p n b : ℕ) → a ≡ e → 4 * a + 3 * p + 28 * n + 22 * b ≤ 4 * e + 3 * p + 35 * n + 29 * b
wide a e p n b x = omega (arith, x)

pub both_cost : (was is : Side) (some more : Parts) → all_cost was is some + all_cost was is more ≤ all_cost was is (with_parts some more)
both_cost was is some more =
    joined_cost was is some more (all_cost was is some) (all_cost was is more) (itself (all_cost was is some)) (itself (all_cost was is more))
  where
    itself : (n : ℕ) → n ≤ n
    itself n = omega arith

pub trees_total : (t r n g a b x1 x2 x3 x4 x34 x234 x : ℕ) → t ≤ 7 + a → r ≤ 7 + b → n ≤ x3 → g ≤ x4 → a ≤ x1 → b ≤ x2 → x3 + x4 ≤ x34 → x2 + x34 ≤ x234
    → x1 + x234 ≤ x → t + (r + n + g) ≤ 14 + x
trees_total t r n g a b x1 x2 x3 x4 x34 x234 x i1 i2 i3 i4 i5 i6 i7 i8 i9 = omega (arith, i1, i2, i3, i4, i5, i6, i7, i8, i9)

pub all_total : (before middle later last after t m1 a1 m2 a2 k p cw co cn oa sa tc tr e o n b e' o' n' b' : ℕ)
    → middle ≤ before + 2 * t + p + 2 * cw → later ≤ middle + 2 * m1 + 3 * a1 + 2 * oa + sa + tc → last ≤ later + 2 * m2 + 3 * a2 + 2 * cw + cn + tr
    → after + b ≤ last + b'
    → cw ≡ co → t ≤ b' → 2 * m1 + 3 * a1 ≤ 5 * k → 2 * m2 + 3 * a2 ≤ 5 * k → oa ≤ 21 → sa ≤ 21
    → tc + tr ≤ 14 + (4 * e + 3 * o + 35 * n + 29 * b)
    → e ≤ e' → o ≤ o' → n ≤ n' → b ≤ b' → 10 * k ≤ 27 * b' + 53 * o'
    → after ≤ before + (p + 4 * co + cn + 77 + 58 * b' + 35 * n' + 56 * o' + 4 * e')
all_total before middle later last after t m1 a1 m2 a2 k p cw co cn oa sa tc tr e o n b e' o' n' b' i1 i2 i3 i4 i5 i6 i7 i8 i9 i10 i11 i12 i13 i14 i15 i16 =
    omega (arith, i1, i2, i3, i4, i5, i6, i7, i8, i9, i10, i11, i12, i13, i14, i15, i16)

-- by lists of which one has fewer there are fewer entries
pub entries_fewer : (side : Side) (p q : Live → Bool) → ((live : Live) → p live ≡ true → q live ≡ true) → (lives : List Live)
    → entries_of side (filter p lives) ≤ entries_of side (filter q lives)
entries_fewer side p q through [] = omega arith
entries_fewer side p q through (live ∷ lives) = by (p live) (q live) refl refl (entries_fewer side p q through lives)
  where
    more : (n m l : ℕ) → m ≤ l → m ≤ n + l
    more n m l few = omega (arith, few)

    both : (n m l : ℕ) → m ≤ l → n + m ≤ n + l
    both n m l few = omega (arith, few)

    by : (a b : Bool) → p live ≡ a → q live ≡ b → entries_of side (filter p lives) ≤ entries_of side (filter q lives)
        → entries_of side (if a then live ∷ filter p lives else filter p lives) ≤ entries_of side (if b then live ∷ filter q lives else filter q lives)
    by true true a b few = both _ (entries_of side (filter p lives)) (entries_of side (filter q lives)) few
    by true false a b few = let must = through live a in absurd (cc)
    by false true a b few = more _ (entries_of side (filter p lives)) (entries_of side (filter q lives)) few
    by false false a b few = few

pub as_change : (before after k l m o e l' m' o' e' : ℕ) → after ≤ before + (k + 58 * l + 35 * m + 56 * o + 4 * e) → l' ≡ l → m' ≡ m → o' ≡ o → e' ≡ e
    → after ≤ before + (k + 58 * l' + 35 * m' + 56 * o' + 4 * e')
as_change before after k l m o e l' m' o' e' x a b c d = omega (arith, x, a, b, c, d)

pub as_shifted : (s e n o m e' n' o' : ℕ) → s ≤ 2 + (e + 8 * n + o) → m ≡ s → e' ≡ e → n' ≡ n → o' ≡ o → m ≤ 2 + (e' + 8 * n' + o')
as_shifted s e n o m e' n' o' x a b c d = omega (arith, x, a, b, c, d)
