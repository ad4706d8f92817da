-- Lists that are merged, and lists in order.
use Rattle.std.proofs.Common.{◌≡◌, ℕ, ◌+◌, ◌<◌, ◌^◌, ◌==◌, ◌||◌, ◌&&◌, nat_lt, not, cond, Bool, true, false, List, []}
use Rattle.std.proofs.Common.{◌∷◌, ◌++◌, length, map, take, drop, get_or, Option, Some, None, refl, sym, ap, subst, ◌∙◌, arith}
use Rattle.std.specs.List.{AllByRecursion, AllPairs, filter, filter_map, list_any}
use Rattle.std.specs.List.Sorted.{IsPermutation, IsSortedByKey}
use Rattle.std.specs.Cmp.{IsTotalOrder, nat_cmp_total, on_total, then_total}
use Rattle.std.specs.Ordering.{is_lt, nat_cmp, ordering_then}
use Rattle.std.specs.declared.cmp.Ordering.{Ordering}
use Rattle.std.specs.declared.cmp.Ordering.TheVariants.{Less, Equal, Greater}
use Rattle.std.specs.BTreeSet.{BTreeSet, contains}
use Rattle.std.proofs.lemmas.List.Sorted.{All-permutation, IsPermutation-map, ranks_by, sorted_far}
use Rattle.std.proofs.lemmas.List.Elements.{All-from_recursion, filter-append, filter_map-append, recursion_from_All}
use Rattle.std.proofs.lemmas.List.Folds.{list_any-append}
use Rattle.std.proofs.lemmas.List.{append-nil, append_assoc, get_or-map, length-map, map-append, take_more}
use Rattle.std.proofs.Math.Seq.{take-append_seam}
use Rattle.std.proofs.lemmas.Fn.{always_returns_same}
use Rattle.std.specs.Fn.{Called, ComputesKey}
use Rattle.std.specs.Prelude.{IfOk, Result, Ok, Err, option_to_list}
use Rattle.verdict.proofs.Lists.{filter_alike}
use denote.Param.Members.{Mut}
use denote.Ref.{Bor}
use Rattle.verdict.specs.OnDisk.{key_below}
use Rattle.verdict.specs.declared.place.Chunk.{Chunk}
use Rattle.verdict.specs.declared.key.Key.{Key}
use Rattle.records.specs.Part.{Located}
use Rattle.volume_items.specs.declared.root_at.RootAt.{RootAt}
use Rattle.live_index.specs.Orders.{by_key}
use Rattle.tree_laws.specs.MergedLaw.{begins_before, begins_with, root_before, has_root_key}
use Rattle.tree_change.specs.Merging.{IsSortedOf, chunks_among, chunks_left, roots_among, roots_left}
use Rattle.tree_change.specs.Merges.{fits, has_key, has_start}

-- a chunk ends at an address of 64 bits
abbrev Fits : Chunk → Type 0
Fits c = c.start + c.length < 2 ^ 64

-- where all chunks fit none is left out
fits_all : (chunks : List Chunk) → AllByRecursion (λ (c : Chunk). c.start + c.length < 2 ^ 64) chunks → filter fits chunks ≡ chunks
fits_all [] all = refl
fits_all (chunk ∷ chunks) all =
    let is : fits chunk ≡ true = grind arith in
    ap (λ b. cond b (chunk ∷ filter fits chunks) (filter fits chunks)) is ∙ ap (λ l. chunk ∷ l) (fits_all chunks all.1)

-- so they do in another order
fit_in_order : (whole sorted : List Chunk) → IsPermutation whole sorted → AllByRecursion Fits whole → AllByRecursion Fits sorted
fit_in_order whole sorted same all = recursion_from_All Fits sorted (All-permutation Fits whole sorted same (All-from_recursion Fits whole all))

pub merged_chunks : (none old olds kept whole sorted lent some : List Chunk) (starts : BTreeSet ℕ) (gone came : List Located)
    → none ≡ [] → olds ≡ old
    → ((start : ℕ) → contains nat_cmp starts start ≡ has_start (chunks_among gone) start)
    → kept ≡ none ++ filter (λ (chunk : Chunk). not (contains nat_cmp starts chunk.start)) olds
    → whole ≡ kept ++ chunks_among came → IsSortedOf begins_before whole sorted → lent ≡ sorted → some ≡ filter fits lent
    → AllByRecursion (λ (c : Chunk). c.start + c.length < 2 ^ 64) (chunks_left old gone came)
    → IsSortedOf begins_before (chunks_left old gone came) some
merged_chunks none old olds kept whole sorted lent some starts gone came empty same has keeps adds is lends fit all =
    subst (λ l. IsSortedOf begins_before (chunks_left old gone came) l) (sym some_is) left
  where
    whole_is : whole ≡ chunks_left old gone came
    whole_is = adds ∙ ap (λ l. l ++ chunks_among came)
        (keeps ∙ ap (λ l. l ++ filter (λ (chunk : Chunk). not (contains nat_cmp starts chunk.start)) olds) empty
        ∙ ap (filter (λ (chunk : Chunk). not (contains nat_cmp starts chunk.start))) same
        ∙ filter_alike (λ (chunk : Chunk). not (contains nat_cmp starts chunk.start))
        (λ (chunk : Chunk). not (begins_with (chunks_among gone) chunk)) (λ chunk. ap not (has chunk.start)) old)

    left : IsSortedOf begins_before (chunks_left old gone came) sorted
    left = subst (λ w. IsSortedOf begins_before w sorted) whole_is is

    some_is : some ≡ sorted
    some_is = fit ∙ ap (filter fits) lends ∙ fits_all sorted (fit_in_order (chunks_left old gone came) sorted left.all all)

pub merged_roots : (none old kept whole roots : List RootAt) (keys : BTreeSet Key) (gone came : List Located)
    → none ≡ []
    → ((key : Key) → contains by_key keys key ≡ has_key (roots_among gone) key)
    → kept ≡ none ++ filter (λ (root : RootAt). not (contains by_key keys root.key)) old
    → whole ≡ kept ++ roots_among came → IsSortedOf root_before whole roots → IsSortedOf root_before (roots_left old gone came) roots
merged_roots none old kept whole roots keys gone came empty has keeps adds is = subst (λ w. IsSortedOf root_before w roots) whole_is is
  where
    whole_is : whole ≡ roots_left old gone came
    whole_is = adds ∙ ap (λ l. l ++ roots_among came)
        (keeps ∙ ap (λ l. l ++ filter (λ (root : RootAt). not (contains by_key keys root.key)) old) empty
        ∙ filter_alike (λ (root : RootAt). not (contains by_key keys root.key)) (λ (root : RootAt). not (has_root_key (roots_among gone) root))
        (λ root. ap not (has root.key)) old)

-- one item more, where it may give something
one : {B : Type 0} (h : Option B) → filter_map (λ (x : Option B). x) (h ∷ []) ≡ option_to_list h
one None = refl
one (Some x) = refl

among_more : {A B C : Type 0} (f : A → B) (g : B → Option C) (xs : List A) (i : ℕ) (d : A) → i < length xs
    → filter_map g (map f (take (i + 1) xs)) ≡ filter_map g (map f (take i xs)) ++ option_to_list (g (f (get_or xs i d)))
among_more f g xs i d inside =
    ap (λ l. filter_map g (map f l)) (take_more xs i d inside)
    ∙ ap (filter_map g) (map-append f (take i xs) (get_or xs i d ∷ []))
    ∙ filter_map-append g (map f (take i xs)) (f (get_or xs i d) ∷ [])
    ∙ ap (λ l. filter_map g (map f (take i xs)) ++ l) (one (g (f (get_or xs i d))))

pub added_more : {A B C : Type 0} (f : A → B) (g : B → Option C) (old now new : List C) (some : Option C) (xs : List A) (i : ℕ) (d : A)
    → i < length xs
    → now ≡ old ++ filter_map g (map f (take i xs)) → some ≡ g (f (get_or xs i d)) → new ≡ now ++ option_to_list some
    → new ≡ old ++ filter_map g (map f (take (i + 1) xs))
added_more f g old now new some xs i d inside so is more =
    more ∙ ap (λ l. l ++ option_to_list some) so ∙ append_assoc old (filter_map g (map f (take i xs))) (option_to_list some)
    ∙ ap (λ o. old ++ (filter_map g (map f (take i xs)) ++ option_to_list o)) is
    ∙ ap (λ l. old ++ l) (sym (among_more f g xs i d inside))

-- the same of what one of them has
pub has_more : {A B C Q : Type 0} (f : A → B) (g : B → Option C) (test : Q → C → Bool) (now new : Q → Bool) (some : Option C) (xs : List A)
    (i : ℕ) (d : A)
    → i < length xs → ((q : Q) → now q ≡ list_any (test q) (filter_map g (map f (take i xs)))) → some ≡ g (f (get_or xs i d))
    → ((q : Q) → new q ≡ (now q || list_any (test q) (option_to_list some)))
    → (q : Q) → new q ≡ list_any (test q) (filter_map g (map f (take (i + 1) xs)))
has_more f g test now new some xs i d inside so is more q =
    more q ∙ ap (λ b. b || list_any (test q) (option_to_list some)) (so q)
    ∙ ap (λ o. list_any (test q) (filter_map g (map f (take i xs))) || list_any (test q) (option_to_list o)) is
    ∙ sym (ap (list_any (test q)) (among_more f g xs i d inside)
    ∙ list_any-append (test q) (filter_map g (map f (take i xs))) (option_to_list (g (f (get_or xs i d)))))

-- what a sort by a key ensures, where each call gives the key of its element
pub sorted_by : {X K : Type 0} (key : X → K) {cmp : K → K → Ordering} → IsTotalOrder cmp
    → {F : Type 0} {g : Mut F (Bor X × Unit {0}) K} {f : F} (xs : List X)
    → ((key : X → K) → ComputesKey g key f → IsSortedByKey key cmp xs)
    → ((a : Bor X × Unit {0}) (r : K) (f' : F) → Called g f a r f' → (r ≡ key a.0.now) × (f' ≡ f))
    → AllPairs (λ a b. is_lt (cmp (key b) (key a)) ≡ false) xs
sorted_by key {cmp} order {F} {g} {f} xs up calls i j d less inside =
    sorted_far (λ x y. is_lt (cmp (key x) (key y))) (ranks_by order key) xs (up key (always_returns_same g (λ a r. r ≡ key a.0.now) f calls)) i j
    d (omega arith) inside

below_is : (s t : Bool) (o : Ordering) → is_lt (ordering_then (cond s Less (cond t Equal Greater)) o) ≡ (s || (t && is_lt o))
below_is true t o = refl
below_is false true o = refl
below_is false false o = refl

number_is : (s t : Bool) → is_lt (cond s Less (cond t Equal Greater)) ≡ s
number_is true t = refl
number_is false true = refl
number_is false false = refl

-- tests by numbers are those of their orders
pub start_before : (a b : ℕ) → is_lt (nat_cmp a b) ≡ nat_lt a b
start_before a b = number_is (nat_lt a b) (a == b)

pub pair_before : (x y a b : ℕ) → is_lt (ordering_then (nat_cmp x y) (nat_cmp a b)) ≡ (nat_lt x y || (x == y && nat_lt a b))
pair_before x y a b = below_is (nat_lt x y) (x == y) (nat_cmp a b) ∙ ap (λ t. nat_lt x y || (x == y && t)) (start_before a b)

pub key_before : (a b : Key) → is_lt (by_key a b) ≡ key_below a b
key_before a b =
    below_is (nat_lt a.objectid b.objectid) (a.objectid == b.objectid) (ordering_then (nat_cmp a.kind b.kind) (nat_cmp a.offset b.offset))
    ∙ ap (λ t. nat_lt a.objectid b.objectid || (a.objectid == b.objectid && t)) (pair_before a.kind b.kind a.offset b.offset)

pub key_total : IsTotalOrder by_key
key_total = then_total (on_total (λ (k : Key). k.objectid) nat_cmp_total)
    (then_total (on_total (λ (k : Key). k.kind) nat_cmp_total) (on_total (λ (k : Key). k.offset) nat_cmp_total))

-- one more that passes a test or does not
filter_more : {X : Type 0} (p : X → Bool) (xs : List X) (i : ℕ) (d : X) → i < length xs
    → filter p (take (i + 1) xs) ≡ filter p (take i xs) ++ cond (p (get_or xs i d)) (get_or xs i d ∷ []) []
filter_more p xs i d inside = ap (filter p) (take_more xs i d inside) ∙ filter-append p (take i xs) (get_or xs i d ∷ [])

pub kept_more : {X : Type 0} (p : X → Bool) (old now new : List X) (xs : List X) (i : ℕ) (d : X) → i < length xs
    → now ≡ old ++ filter p (take i xs) → p (get_or xs i d) ≡ true → new ≡ now ++ get_or xs i d ∷ [] → new ≡ old ++ filter p (take (i + 1) xs)
kept_more p old now new xs i d inside so passes more =
    more ∙ ap (λ l. l ++ get_or xs i d ∷ []) so ∙ append_assoc old (filter p (take i xs)) (get_or xs i d ∷ [])
    ∙ ap (λ l. old ++ l) (sym (filter_more p xs i d inside ∙ ap (λ b. filter p (take i xs) ++ cond b (get_or xs i d ∷ []) []) passes))

pub kept_less : {X : Type 0} (p : X → Bool) (old now : List X) (xs : List X) (i : ℕ) (d : X) → i < length xs
    → now ≡ old ++ filter p (take i xs) → p (get_or xs i d) ≡ false → now ≡ old ++ filter p (take (i + 1) xs)
kept_less p old now xs i d inside so fails =
    so ∙ ap (λ l. old ++ l)
    (sym (filter_more p xs i d inside ∙ ap (λ b. filter p (take i xs) ++ cond b (get_or xs i d ∷ []) []) fails ∙ append-nil (filter p (take i xs))))

-- what holds of a result, where there is one
pub ok_then : {A E : Type 0} (P Q : A → Type 0) (result : Result A E) → ((value : A) → P value → Q value) → IfOk result P → IfOk result Q
ok_then P Q (Ok value) follows is = follows value is
ok_then P Q (Err e) follows is = is

-- a sort by a key gives the elements in an order, where the test by their keys is its test
pub sorted_of : {X K : Type 0} (key : X → K) {cmp : K → K → Ordering} → IsTotalOrder cmp → (before : X → X → Bool)
    → ((a b : X) → is_lt (cmp (key a) (key b)) ≡ before a b) → {F : Type 0} {g : Mut F (Bor X × Unit {0}) K} {f : F} (whole xs : List X)
    → IsPermutation whole xs → ((key : X → K) → ComputesKey g key f → IsSortedByKey key cmp xs)
    → ((a : Bor X × Unit {0}) (r : K) (f' : F) → Called g f a r f' → (r ≡ key a.0.now) × (f' ≡ f)) → IsSortedOf before whole xs
sorted_of key order before same whole xs all up calls = record {
  all = all;
  ascends = λ i j d less inside. sym (same (get_or xs j d) (get_or xs i d)) ∙ sorted_by key order xs up calls i j d less inside;
}

-- the same, where each element stands for another
pub sorted_for : {X Y : Type 0} (stands : X → Y) (of : X → X → Bool) (before : Y → Y → Bool) → ((a b : X) → of a b ≡ before (stands a) (stands b))
    → (whole xs : List X) → IsSortedOf of whole xs → IsSortedOf before (map stands whole) (map stands xs)
sorted_for stands of before same whole [] is = record {
  all = IsPermutation-map stands whole [] is.all;
  ascends = λ i j d less inside. absurd (omega arith);
}
sorted_for stands of before same whole (x ∷ xs) is = record {
  all = IsPermutation-map stands whole (x ∷ xs) is.all;
  ascends = λ i j d less inside.
      (let
      last : j < length (x ∷ xs) = subst (λ n. j < n) (length-map (x ∷ xs) stands) inside in let
      first : i < length (x ∷ xs) = omega arith in
      ap (λ b. before b (get_or (map stands (x ∷ xs)) i d)) (get_or-map stands (x ∷ xs) j x d last)
      ∙ ap (before (stands (get_or (x ∷ xs) j x))) (get_or-map stands (x ∷ xs) i x d first)
      ∙ sym (same (get_or (x ∷ xs) j x) (get_or (x ∷ xs) i x))
      ∙ is.ascends i j x less last);
}

-- the test of an item's place by its tree and key
pub item_test : (t s : ℕ) (a b : Key) → is_lt (ordering_then (nat_cmp t s) (by_key a b)) ≡ (nat_lt t s || (t == s && key_below a b))
item_test t s a b = below_is (nat_lt t s) (t == s) (by_key a b) ∙ ap (λ o. nat_lt t s || (t == s && o)) (key_before a b)

-- a tree and a key, and an address and a tree, in order
abbrev pub by_item : ℕ × Key → ℕ × Key → Ordering
by_item x y = ordering_then (nat_cmp x.0 y.0) (by_key x.1 y.1)

pub item_total : IsTotalOrder by_item
item_total = then_total (on_total (λ (k : ℕ × Key). k.0) nat_cmp_total) (on_total (λ (k : ℕ × Key). k.1) key_total)

abbrev pub by_two : ℕ × ℕ → ℕ × ℕ → Ordering
by_two x y = ordering_then (nat_cmp x.0 y.0) (nat_cmp x.1 y.1)

pub two_total : IsTotalOrder by_two
two_total = then_total (on_total (λ (k : ℕ × ℕ). k.0) nat_cmp_total) (on_total (λ (k : ℕ × ℕ). k.1) nat_cmp_total)

-- what a slice that was lent of a list is put back into it
pub sorted_in : {X : Type 0} (before : X → X → Bool) (items lent new : List X) (len : ℕ) → lent ≡ items → length new ≡ length lent → length lent ≡ len
    → IsSortedOf before lent new → IsSortedOf before items (take len (new ++ drop (length new) items))
sorted_in before items lent new len same long is sorted =
    subst (λ l. IsSortedOf before items l) (sym back) (subst (λ l. IsSortedOf before l new) same sorted)
  where
    back : take len (new ++ drop (length new) items) ≡ new
    back = ap (λ n. take n (new ++ drop (length new) items)) (sym (long ∙ is)) ∙ take-append_seam new (drop (length new) items)
