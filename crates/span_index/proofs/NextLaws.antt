-- The first place of an inode in the order by file, and the span that it shows next.
use Rattle.std.proofs.Common.{◌≡◌, ℕ, ◌<◌, ◌≤◌, Bool, true, false, cond, not, ◌&&◌, ◌||◌, List, [], ◌∷◌, refl, sym, ap, ◌∙◌, subst, arith}
use Rattle.std.specs.Prelude.{◌==◌, Option, Some, None, nat_lt, option_map}
use Rattle.std.specs.Option.{unwrap_or}
use Rattle.std.specs.List.{filter, find, list_any}
use Rattle.std.specs.List.Sorted.{IsStrictlySortedBy}
use Rattle.std.specs.Map.{keys_of, lookup}
use Rattle.std.specs.Ordering.{is_gt, is_lt, nat_cmp, ordering_then}
use Rattle.std.specs.declared.cmp.Ordering.{Ordering}
use Rattle.std.specs.declared.ops.Bound.TheVariants.{Included, Unbounded}
use Rattle.std.specs.BTreeMap.{is_at}
use Rattle.std.specs.BTreeMap.Range.{range_contains}
use Rattle.std.proofs.lemmas.Bool.{eqb-true, eq-eqb}
use Rattle.std.proofs.lemmas.Bool.Decides.{nat_tests}
use Rattle.span_index.specs.declared.span.Span.{Span}
use Rattle.span_index.specs.declared.span.SpanSort.{SpanSort}
use Rattle.span_index.specs.declared.span.SpanSort.TheVariants.{Owned, Summed, Shown}
use Rattle.span_index.specs.declared.files.Files.{Files}
use Rattle.span_index.specs.declared.places.ByFile.{ByFile}
use Rattle.span_index.specs.Order.{is_below, span_cmp}
use Rattle.span_index.specs.OrderLaws.{span_total}
use Rattle.span_index.specs.Places.{AreAlike, IsNextFile, file_cmp, has_file, is_file_stop, is_shown_at}
use Rattle.span_index.specs.Spans.{IsNextShown, Table, is_behind, is_sooner, offset_of, shows_behind}
use Rattle.span_index.proofs.OrderLaws.{file_exact, file_total}
use Rattle.span_index.proofs.FindLaws.{find_filter, found_least, found_passes, found_stands, none_passes}
use Rattle.span_index.proofs.MeetingLaws.{le_from, le_not_gt, least_at, least_not_above, level, not_above, opposed, then_rest, turned}
use Rattle.verdict.proofs.Truth.{and_left, and_right, and_true, false_if, or_right}
use Rattle.verdict.proofs.Numbers.{none_above}

-- ---- a set as a map

abbrev paired : List ByFile → List (ByFile × Unit {0})
paired [] = []
paired (k ∷ ks) = (k, tt) ∷ paired ks

keys_paired : (ks : List ByFile) → ks ≡ keys_of (paired ks)
keys_paired [] = refl
keys_paired (k ∷ ks) = ap (λ xs. k ∷ xs) (keys_paired ks)

find_paired : (t : ByFile → Bool) (ks : List ByFile) → find (λ e. t e.0) (paired ks) ≡ option_map (λ k. (k, tt)) (find t ks)
find_paired t [] = refl
find_paired t (k ∷ ks) =
    elim (t k) as (λ b. cond b (Some (k, tt)) (find (λ e. t e.0) (paired ks)) ≡ option_map (λ k. (k, tt)) (cond b (Some k) (find t ks))) [ true ↦ refl | false ↦ find_paired t ks ]

look_paired : (p : ByFile → Bool) (ks : List ByFile) → list_any p ks ≡ true → lookup p (paired ks) ≡ Some tt
look_paired p [] h = absurd (cc)
look_paired p (k ∷ ks) h =
    elim (p k) as (λ b. (b || list_any p ks) ≡ true → cond b (Some tt) (lookup p (paired ks)) ≡ Some tt) [ true ↦ λ f. refl | false ↦ λ f. look_paired p ks f ] h

any_paired : (p : ByFile → Bool) (ks : List ByFile) → lookup p (paired ks) ≡ Some tt → list_any p ks ≡ true
any_paired p [] h = absurd (cc)
any_paired p (k ∷ ks) h =
    elim (p k) as (λ b. cond b (Some tt) (lookup p (paired ks)) ≡ Some tt → (b || list_any p ks) ≡ true) [ true ↦ λ f. refl | false ↦ λ f. any_paired p ks f ] h

-- ---- what the search finds

abbrev found_by : ByFile → ℕ → ℕ → Option ℕ → ByFile → Bool
found_by start tree ino after place = range_contains file_cmp (Included start) Unbounded place && is_file_stop tree ino after place

-- where the places of an inode begin, behind an offset where one is given
abbrev start_at : ℕ → ℕ → Option ℕ → ByFile
start_at tree ino after = record { tree = tree; ino = ino; file_offset = unwrap_or after 0; span = least_at 0 }

in_file : (p q : ByFile) → p.tree ≡ q.tree → p.ino ≡ q.ino → file_cmp p q ≡ ordering_then (nat_cmp p.file_offset q.file_offset) (span_cmp p.span q.span)
in_file p q t i =
    ap (λ x. ordering_then (nat_cmp x q.tree) (ordering_then (nat_cmp p.ino q.ino) (ordering_then (nat_cmp p.file_offset q.file_offset) (span_cmp p.span q.span)))) t
    ∙ ap (λ r. ordering_then r (ordering_then (nat_cmp p.ino q.ino) (ordering_then (nat_cmp p.file_offset q.file_offset) (span_cmp p.span q.span)))) (level q.tree)
    ∙ ap (λ x. ordering_then (nat_cmp x q.ino) (ordering_then (nat_cmp p.file_offset q.file_offset) (span_cmp p.span q.span))) i
    ∙ ap (λ r. ordering_then r (ordering_then (nat_cmp p.file_offset q.file_offset) (span_cmp p.span q.span))) (level q.ino)

offset_low : (after : Option ℕ) (offset : ℕ) → is_behind after offset ≡ true → unwrap_or after 0 ≤ offset
offset_low None offset e = omega arith
offset_low (Some a) offset e = grind (arith, nat_tests)

from_start : (tree ino : ℕ) (after : Option ℕ) (place : ByFile) → place.tree ≡ tree → place.ino ≡ ino → is_behind after place.file_offset ≡ true → is_gt (file_cmp (start_at tree ino after) place) ≡ false
from_start tree ino after place t i behind =
    ap is_gt (in_file (start_at tree ino after) place (sym t) (sym i))
    ∙ none_above (unwrap_or after 0) place.file_offset _ (offset_low after place.file_offset behind) (least_not_above 0 place.span (omega arith))

wanted : (tree ino : ℕ) (after : Option ℕ) (place : ByFile) → place.tree ≡ tree → place.ino ≡ ino → is_behind after place.file_offset ≡ true
    → found_by (start_at tree ino after) tree ino after place ≡ true
wanted tree ino after place t i behind =
    and_true _ _ (and_true _ _ (le_from _ (from_start tree ino after place t i behind)) refl)
    (or_right (not (place.tree == tree && place.ino == ino)) (is_behind after place.file_offset) behind)

of_inode : (tree ino : ℕ) (b e x : ByFile) → b.tree ≡ tree → b.ino ≡ ino → x.tree ≡ tree → x.ino ≡ ino → is_gt (file_cmp b e) ≡ false → is_gt (file_cmp e x) ≡ false
    → (e.tree == tree && e.ino == ino) ≡ true
of_inode tree ino b e x bt bi xt xi low high =
    let r1 : b.tree ≤ e.tree = not_above _ _ _ low in
    let r2 : e.tree ≤ x.tree = not_above _ _ _ high in
    let s1 : b.tree ≡ e.tree = omega arith in
    let s2 : e.tree ≡ x.tree = omega arith in
    let i1 : b.ino ≤ e.ino = not_above _ _ _ (then_rest _ _ _ low s1) in
    let i2 : e.ino ≤ x.ino = not_above _ _ _ (then_rest _ _ _ high s2) in
    and_true _ _ (eq-eqb e.tree tree (omega arith)) (eq-eqb e.ino ino (omega arith))

module _ (f : Files) (tree ino : ℕ) (after : Option ℕ) (ordered : IsStrictlySortedBy file_cmp f.places.keys) where
  abbrev es : List (ByFile × Unit {0})
  es = paired f.places.keys

  abbrev start : ByFile
  start = start_at tree ino after

  sorted : IsStrictlySortedBy file_cmp (keys_of es)
  sorted = subst (IsStrictlySortedBy file_cmp) (keys_paired f.places.keys) ordered

  found_is : (r : Option ByFile) → r ≡ find (is_file_stop tree ino after) (filter (λ p. range_contains file_cmp (Included start) Unbounded p) f.places.keys)
      → find (λ e. found_by start tree ino after e.0) es ≡ option_map (λ k. (k, tt)) r
  found_is r is = find_paired (found_by start tree ino after) f.places.keys ∙ ap (option_map (λ k. (k, tt))) (sym (is ∙ find_filter (λ p. range_contains file_cmp (Included start) Unbounded p) (is_file_stop tree ino after) f.places.keys))

  there : (place : ByFile) → has_file f place ≡ true → lookup (is_at (file_cmp place)) es ≡ Some tt
  unfolding has_file
  there place had = look_paired (is_at (file_cmp place)) f.places.keys had

  pub none_next : None ≡ find (is_file_stop tree ino after) (filter (λ p. range_contains file_cmp (Included start) Unbounded p) f.places.keys) → IsNextFile f tree ino after None
  none_next is = λ place t i behind. false_if _ (λ had.
      opposed _ (wanted tree ino after place t i behind)
      (none_passes file_cmp file_total file_exact (found_by start tree ino after) es place tt (found_is None is) (there place had)))

  module _ (e : ByFile) (is : Some e ≡ find (is_file_stop tree ino after) (filter (λ p. range_contains file_cmp (Included start) Unbounded p) f.places.keys)) where
    found : find (λ d. found_by start tree ino after d.0) es ≡ Some (e, tt)
    found = found_is (Some e) is

    passes : found_by start tree ino after e ≡ true
    passes = found_passes (λ d. found_by start tree ino after d.0) es (e, tt) found

    not_gt : (place : ByFile) → place.tree ≡ tree → place.ino ≡ ino → is_behind after place.file_offset ≡ true → has_file f place ≡ true → is_gt (file_cmp e place) ≡ false
    not_gt place t i behind had =
        found_least file_cmp file_total file_exact (found_by start tree ino after) es (e, tt) place tt sorted found (there place had) (wanted tree ino after place t i behind)

    pub other_next : (e.tree == tree && e.ino == ino) ≡ false → IsNextFile f tree ino after None
    other_next apart = λ place t i behind. false_if _ (λ had.
        opposed _ (of_inode tree ino start e place refl refl t i (le_not_gt _ (and_left _ _ (and_left _ _ passes))) (not_gt place t i behind had)) apart)

    pub next : (e.tree == tree && e.ino == ino) ≡ true → IsNextFile f tree ino after (Some e)
    unfolding has_file
    next here = (
      any_paired (is_at (file_cmp e)) f.places.keys (found_stands file_cmp file_total file_exact (λ d. found_by start tree ino after d.0) es (e, tt) sorted found),
      eqb-true _ _ (and_left _ _ here),
      eqb-true _ _ (and_right (e.tree == tree) _ here),
      ap (λ b. not b || is_behind after e.file_offset) (sym here) ∙ and_right (range_contains file_cmp (Included start) Unbounded e) _ passes,
      λ place t i behind gt. false_if _ (λ had. opposed _ gt (not_gt place t i behind had)),
    )

-- ---- the span that a file shows next

none_of : (n : ℕ) → nat_lt 0 n ≡ false → n ≡ 0
none_of n e = grind (arith, nat_tests)

some_of : (n : ℕ) → nat_lt 0 n ≡ true → 0 < n
some_of n e = grind (arith, nat_tests)

-- where a span stands by file
abbrev place_at : ℕ → ℕ → ℕ → Span → ByFile
place_at t i o span = record { tree = t; ino = i; file_offset = o; span = span }

itself : (t i o : ℕ) → (t == t && (i == i && o == o)) ≡ true
itself t i o = and_true _ _ (eq-eqb t t refl) (and_true _ _ (eq-eqb i i refl) (eq-eqb o o refl))

module _ (table : Table) (f : Files) (alike : AreAlike table f) (tree ino : ℕ) (after : Option ℕ) where
  no_times : (sort : SpanSort) (t i o e l : ℕ) (span : Span) → span.sort ≡ Shown t i o e l → has_file f (place_at t i o span) ≡ false → table span ≡ 0
  no_times sort t i o e l span is none =
      none_of (table span)
      (sym (ap (λ b. b && nat_lt 0 (table span)) (ap (λ s. is_shown_at s (place_at t i o span)) is ∙ itself t i o)) ∙ sym (alike (place_at t i o span)) ∙ none)

  none_of_sort : (sort : SpanSort) (span : Span) → span.sort ≡ sort → ((place : ByFile) → place.tree ≡ tree → place.ino ≡ ino → is_behind after place.file_offset ≡ true → place.span ≡ span → offset_of sort ≡ place.file_offset → has_file f place ≡ false)
      → shows_behind tree ino after sort ≡ true → table span ≡ 0
  none_of_sort (Owned d) span is none shows = absurd (cc)
  none_of_sort Summed span is none shows = absurd (cc)
  none_of_sort (Shown t i o e l) span is none shows =
      no_times (Shown t i o e l) t i o e l span is
      (none (place_at t i o span) (eqb-true _ _ (and_left _ _ shows)) (eqb-true _ _ (and_left _ _ (and_right (t == tree) _ shows))) (and_right (i == ino) _ (and_right (t == tree) _ shows)) refl refl)

  pub none_shown : IsNextFile f tree ino after None → IsNextShown table tree ino after None
  none_shown none = λ span shows. none_of_sort span.sort span refl (λ place t i behind own offset. none place t i behind) shows

  shown_sort : (sort : SpanSort) (place : ByFile) → is_shown_at sort place ≡ true → place.tree ≡ tree → place.ino ≡ ino → is_behind after place.file_offset ≡ true
      → (shows_behind tree ino after sort ≡ true) × (offset_of sort ≡ place.file_offset)
  shown_sort (Owned d) place at t i behind = absurd (cc)
  shown_sort Summed place at t i behind = absurd (cc)
  shown_sort (Shown t' i' o e l) place at t i behind =
      let a : t' ≡ place.tree = eqb-true _ _ (and_left _ _ at) in
      let b : i' ≡ place.ino = eqb-true _ _ (and_left _ _ (and_right (t' == place.tree) _ at)) in
      let c : o ≡ place.file_offset = eqb-true _ _ (and_right (i' == place.ino) _ (and_right (t' == place.tree) _ at)) in
      (and_true _ _ (eq-eqb t' tree (a ∙ t)) (and_true _ _ (eq-eqb i' ino (b ∙ i)) (subst (λ x. is_behind after x ≡ true) (sym c) behind)), c)

  gt_by : (a b : ℕ) (r s : Ordering) → (nat_lt b a || (b == a && is_lt s)) ≡ true → (is_lt s ≡ true → is_gt r ≡ true) → is_gt (ordering_then (nat_cmp a b) r) ≡ true
  gt_by a b r s e h = grind (arith, nat_tests)

  sooner_gt : (x y : Span) (p q : ByFile) → p.span ≡ y → q.span ≡ x → offset_of y.sort ≡ p.file_offset → offset_of x.sort ≡ q.file_offset → p.tree ≡ q.tree → p.ino ≡ q.ino → is_sooner x y ≡ true → is_gt (file_cmp p q) ≡ true
  unfolding is_below
  sooner_gt x y p q ps qs po qo t i sooner =
      ap is_gt (in_file p q t i)
      ∙ gt_by p.file_offset q.file_offset (span_cmp p.span q.span) (span_cmp x y)
      (subst (λ n. (nat_lt n p.file_offset || (n == p.file_offset && is_lt (span_cmp x y))) ≡ true) qo
      (subst (λ n. (nat_lt (offset_of x.sort) n || (offset_of x.sort == n && is_lt (span_cmp x y))) ≡ true) po sooner))
      (λ less. subst (λ z. is_gt (span_cmp z q.span) ≡ true) (sym ps) (subst (λ z. is_gt (span_cmp y z) ≡ true) (sym qs) (turned (span_cmp x y) (span_cmp y x) (span_total.antisymm y x) less)))

  pub some_shown : (next : ByFile) → IsNextFile f tree ino after (Some next) → IsNextShown table tree ino after (Some next.span)
  some_shown next is =
      let stands : (is_shown_at next.span.sort next && nat_lt 0 (table next.span)) ≡ true = sym (alike next) ∙ is.0 in
      let shows : (shows_behind tree ino after next.span.sort ≡ true) × (offset_of next.span.sort ≡ next.file_offset) = shown_sort next.span.sort next (and_left _ _ stands) is.1 is.2 is.3 in (
        some_of (table next.span) (and_right (is_shown_at next.span.sort next) _ stands),
        shows.0,
        λ span asked sooner. none_of_sort span.sort span refl
            (λ place t i behind own offset. is.4 place t i behind (sooner_gt span next.span next place refl own shows.1 offset (is.1 ∙ sym t) (is.2 ∙ sym i) sooner)) asked,
      )
