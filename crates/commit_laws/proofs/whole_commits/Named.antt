-- The records of an image and its items: what holds of all items holds of all records, and the spans of those that are found are named.
use Rattle.std.proofs.Common.{◌≡◌, ℕ, ◌*◌, ◌/◌, ◌%◌, ◌<◌, Bool, true, false, cond, List, [], ◌∷◌, ◌++◌, map, refl, ap, sym, ◌∙◌, subst, inl, inr, arith}
use Rattle.std.specs.Prelude.{◌⊎◌, Option, Some, None}
use Rattle.std.specs.List.{All, AllByRecursion, Contains, cons_option, count_by, filter_map}
use Rattle.std.specs.List.Sorted.{IsPermutation}
use Rattle.std.proofs.lemmas.Bool.{eqb-true}
use Rattle.std.proofs.lemmas.List.Elements.{All-cons, All-contains, All-from_recursion, Contains-append_cases, Contains-append_left, Contains-append_right, filter_map-append, recursion_from_All}
use Rattle.std.proofs.lemmas.List.Sorted.{Contains-permutation, IsPermutation-sym}
use Rattle.commit_laws.proofs.named_items.Filters.{made_one}
use Rattle.verdict.proofs.Answers.{some_is}
use Rattle.verdict.specs.declared.key.Key.{Key}
use Rattle.verdict.specs.declared.kinds.TheConstants.{EXTENT_DATA, EXTENT_ITEM}
use Rattle.accounts.specs.Context.{Context}
use Rattle.change_records.specs.Affected.{NamesBlock, NamesIn}
use Rattle.change_records.specs.Refs.{ref_to}
use Rattle.change_records.specs.Search.{SortNames, SpanNames}
use Rattle.change_records.specs.Spans.{IsLawfulIn, extent_bytes, extent_span, is_written, shown_span, span_in, span_of}
use Rattle.change_records.specs.declared.item_ref.ItemRef.{ItemRef}
use Rattle.change_records.proofs.Merge.{contains_first, contains_more, contains_none, from_one}
use Rattle.extent_items.specs.ExtentRow.{ExtentFields}
use Rattle.fs_items.specs.SumsRow.{SumFields}
use Rattle.fs_items.specs.declared.file_extent.FileExtent.{FileExtent}
use Rattle.live_index.specs.Pairs.{Pairs}
use Rattle.records.specs.Contents.{super_record}
use Rattle.records.specs.Part.{IsLawful, Located, Part}
use Rattle.records.specs.Part.Part.{ExtentPart, FileExtentPart, SumsPart}
use Rattle.records.specs.Postings.{postings_of}
use Rattle.records.specs.Seen.{Seen, accounted, block_record}
use Rattle.records.specs.Seen.Seen.{BlockSeen, ItemSeen, PointerSeen}
use Rattle.records.specs.SpacePostings.{is_data, space_postings}
use Rattle.records.specs.declared.rec.WalkedBlock.{WalkedBlock}
use Rattle.tree_laws.specs.LivePairs.{Walked}
use Rattle.tree_laws.specs.Unshared.{item_seen}
use Rattle.span_index.specs.Order.{is_same}
use Rattle.span_index.specs.Sectors.{is_inside, times_of_span}
use Rattle.span_index.specs.Spans.{Table}
use Rattle.span_index.specs.declared.span.Run.{Run}
use Rattle.span_index.specs.declared.span.Span.{Span}
use Rattle.span_index.specs.declared.span.SpanSort.TheVariants.{Owned}
use Rattle.super_reader.specs.declared.Super.{Super}
use Rattle.commit_laws.specs.Blocks.{HasOwnName}
use Rattle.commit_laws.specs.Items.{ItemsStand, items_of}
use Rattle.commit_laws.specs.Paired.{name_of}
use Rattle.commit_laws.specs.Same.{records_of}
use Rattle.commit_laws.specs.Sectors.{AreInside, AreSound}
use Rattle.commit_laws.specs.Steps.{spans_of}
use Rattle.commit_laws.proofs.named_items.Alike.{contains_cases}
use Rattle.commit_laws.proofs.named_items.Found.{one_alone, all_of}
use Rattle.commit_laws.proofs.whole_commits.Spans.{there}

-- ---- records and items

seen_all : (Q : Located → Type 0) → ((block : WalkedBlock) → Q (block_record block)) → (seen : List Seen)
    → AllByRecursion Q (filter_map item_seen seen) → AllByRecursion Q (filter_map accounted seen)
seen_all Q blocks [] all = all
seen_all Q blocks (BlockSeen block ∷ more) all = (blocks block, seen_all Q blocks more all)
seen_all Q blocks (PointerSeen pointer ∷ more) all = seen_all Q blocks more all
seen_all Q blocks (ItemSeen one ∷ more) all = (all.0, seen_all Q blocks more all.1)

-- what holds of the superblock's record, of those of blocks and of all items holds of all records
pub records_all : (Q : Located → Type 0) → ((sup : Super) → Q (super_record sup)) → ((block : WalkedBlock) → Q (block_record block)) → (whole : Walked)
    → All Q (items_of whole) → All Q (records_of whole)
unfolding records_of
records_all Q sup blocks whole all =
    All-cons Q (super_record whole.sup) (filter_map accounted whole.seen) (sup whole.sup)
    (All-from_recursion Q (filter_map accounted whole.seen)
    (seen_all Q blocks whole.seen (recursion_from_All Q (filter_map item_seen whole.seen) all)))

spans_alike : (n : ℕ) (seen : List Seen) → filter_map (span_of n) (filter_map accounted seen) ≡ filter_map (span_of n) (filter_map item_seen seen)
spans_alike n [] = refl
spans_alike n (BlockSeen block ∷ more) = spans_alike n more
spans_alike n (PointerSeen pointer ∷ more) = spans_alike n more
spans_alike n (ItemSeen one ∷ more) = ap (cons_option (span_of n one)) (spans_alike n more)

-- the spans of the records are those of the items
pub spans_are : (n : ℕ) (whole : Walked) → spans_of n (records_of whole) ≡ filter_map (span_of n) (items_of whole)
unfolding spans_of records_of
spans_are n whole = spans_alike n whole.seen

pub times_are : (n : ℕ) (whole : Walked) (span : Span)
    → times_of_span (spans_of n (records_of whole)) span ≡ count_by (is_same span) (filter_map (span_of n) (items_of whole))
unfolding times_of_span
times_are n whole span = ap (count_by (is_same span)) (spans_are n whole)

-- the records of items that stand are sound
pub sound_of : (whole : Walked) → ItemsStand whole.sup.nodesize (items_of whole) → AreSound whole.sup.nodesize (records_of whole)
sound_of whole stand =
    records_all (λ (one : Located). IsLawfulIn whole.sup.nodesize one one.part × IsLawful one.part) (λ sup. (tt, tt)) (λ block. (tt, tt)) whole
    (λ k d small. (stand.lawful k d small, stand.sound k d small))

-- ---- members

pub map_in : {X Y : Type 0} (f : X → Y) (xs : List X) (x : X) → Contains xs x → Contains (map f xs) (f x)
map_in f [] x has = absurd (contains_none x has)
map_in {X} {Y} f (y ∷ ys) x has = by (contains_cases y ys x has) (map_in f ys x)
  where
    by : (y ≡ x) ⊎ Contains ys x → (Contains ys x → Contains (map f ys) (f x)) → Contains (f y ∷ map f ys) (f x)
    by (inl here) later = subst (λ z. Contains (f y ∷ map f ys) (f z)) here (contains_first (f y) (map f ys))
    by (inr more) later = contains_more (f y) (map f ys) (f x) (later more)

-- ---- the names of spans

-- an item posts otherwise by two contexts
pub record PostsOtherwise (one : Located) : Type 0 where
  pub before : Context
  pub after : Context
  pub differs : postings_of before one ≡ postings_of after one → ⊥

-- checksums post the same by any two
sums_never : (tree block : ℕ) (key : Key) (item : SumFields) → PostsOtherwise (record { tree = tree; block = block; key = key; part = SumsPart item }) → ⊥
unfolding space_postings
sums_never tree block key item other = other.differs refl

owned_name : (pairs : Pairs) (d : Bool) (first sectors : ℕ) (at : ItemRef)
    → (d ≡ true → at ≡ ref_to 2 (record { objectid = first; kind = EXTENT_ITEM; offset = sectors * 4096 }))
    → (d ≡ false → NamesBlock pairs first at)
    → SortNames pairs first sectors (Owned d) at
owned_name pairs true first sectors at known other = known refl
owned_name pairs false first sectors at known other = other refl

whole_bytes : (n : ℕ) → n % 4096 ≡ 0 → n ≡ n / 4096 * 4096
whole_bytes n whole = omega (arith, whole)

shown_name : (pairs : Pairs) (n tree block : ℕ) (key : Key) (range : FileExtent) (span : Span) (b : Bool) → is_written range ≡ b
    → IsLawfulIn n (record { tree = tree; block = block; key = key; part = FileExtentPart range }) (FileExtentPart range)
    → cond b (Some (shown_span tree range)) None ≡ Some span → SpanNames pairs span (ref_to tree key)
shown_name pairs n tree block key range span false is lawful gives = absurd (cc)
shown_name pairs n tree block key range span true is lawful gives =
    let keeps = lawful is in
    let kind = keeps.kind in
    let there : key ≡ record { objectid = range.key.objectid; kind = EXTENT_DATA; offset = range.key.offset } =
    keeps.key ∙ (λ i. record { objectid = range.key.objectid; kind = kind i; offset = range.key.offset }) in
    subst (λ (s : Span). SpanNames pairs s (ref_to tree key)) (some_is (shown_span tree range) span gives) (ap (ref_to tree) there)

extent_name : (pairs : Pairs) (n tree block : ℕ) (key : Key) (item : ExtentFields) (span : Span)
    → IsLawfulIn n (record { tree = tree; block = block; key = key; part = ExtentPart item }) (ExtentPart item)
    → NamesIn pairs (record { tree = tree; block = block; key = key; part = ExtentPart item }) (ExtentPart item) (ref_to tree key)
    → Some (extent_span n item) ≡ Some span → SpanNames pairs span (ref_to tree key)
extent_name pairs n tree block key item span keeps names gives =
    subst (λ (s : Span). SpanNames pairs s (ref_to tree key)) (some_is (extent_span n item) span gives)
    (owned_name pairs (is_data item) item.key.objectid (extent_bytes n item / 4096) (ref_to tree key) known names.1)
  where
    known : is_data item ≡ true
        → ref_to tree key ≡ ref_to 2 (record { objectid = item.key.objectid; kind = EXTENT_ITEM; offset = extent_bytes n item / 4096 * 4096 })
    known is =
        let kind : item.key.kind ≡ EXTENT_ITEM = eqb-true item.key.kind EXTENT_ITEM is in
        let bytes : item.key.offset ≡ extent_bytes n item / 4096 * 4096 =
        sym (ap (λ b. cond b item.key.offset n) is) ∙ whole_bytes (extent_bytes n item) keeps.whole in
        let there : key ≡ record { objectid = item.key.objectid; kind = EXTENT_ITEM; offset = extent_bytes n item / 4096 * 4096 } =
        keeps.key ∙ (λ i. record { objectid = item.key.objectid; kind = kind i; offset = bytes i }) in
        λ i. ref_to (keeps.tree i) (there i)

-- the name of an item is that of its span, but for checksums
part_name : (pairs : Pairs) (n tree block : ℕ) (key : Key) (part : Part) (span : Span)
    → IsLawfulIn n (record { tree = tree; block = block; key = key; part = part }) part
    → NamesIn pairs (record { tree = tree; block = block; key = key; part = part }) part (ref_to tree key)
    → PostsOtherwise (record { tree = tree; block = block; key = key; part = part })
    → span_in n tree part ≡ Some span → SpanNames pairs span (ref_to tree key)
part_name pairs n tree block key (ExtentPart item) span lawful names other gives = extent_name pairs n tree block key item span lawful names gives
part_name pairs n tree block key (FileExtentPart range) span lawful names other gives =
    shown_name pairs n tree block key range span (is_written range) refl lawful gives
part_name pairs n tree block key (SumsPart item) span lawful names other gives = absurd (sums_never tree block key item other)
part_name pairs n tree block key part span lawful names other gives = absurd (cc)

-- some names are of items that post otherwise
abbrev pub AreOtherwise : List Located → List ItemRef → Type 0
AreOtherwise items refs = (at : ItemRef) → Contains refs at → (one : Located) × Contains items one × (name_of one ≡ at) × PostsOtherwise one

-- the span of an item among the named ones has its name, and stands in a table
abbrev IsSpanNamed : Pairs → ℕ → Table → List ItemRef → Located → Type 0
IsSpanNamed pairs n table refs one =
    (span : Span) → span_of n one ≡ Some span → Contains refs (name_of one) → SpanNames pairs span (name_of one) × (0 < table span)

module _ (pairs : Pairs) (whole : Walked) (refs : List ItemRef) (stand : ItemsStand whole.sup.nodesize (items_of whole))
    (own : All (HasOwnName pairs) (items_of whole)) (otherwise : AreOtherwise (items_of whole) refs) where
  abbrev size : ℕ
  size = whole.sup.nodesize

  abbrev table : Table
  table = times_of_span (spans_of size (records_of whole))

  item_named : (one : Located) → Contains (items_of whole) one → IsSpanNamed pairs size table refs one
  item_named one has span gives listed =
      let other = otherwise (name_of one) listed in
      let same : other.0 ≡ one = one_alone (items_of whole) stand.distinct other.0 one other.1 has other.2 in (
        part_name pairs size one.tree one.block one.key one.part span
            (All-contains (λ (x : Located). IsLawfulIn size x x.part) (items_of whole) one stand.lawful has)
            (All-contains (HasOwnName pairs) (items_of whole) one own has).own
            (subst PostsOtherwise same other.3) gives,
        there (spans_of size (records_of whole)) span
            (subst (λ spans. Contains spans span) (sym (spans_are size whole)) (made_one (span_of size) (items_of whole) one span has gives)),
      )

  all_named : All (IsSpanNamed pairs size table refs) (records_of whole)
  all_named =
      records_all (IsSpanNamed pairs size table refs) (λ sup span gives. absurd (cc)) (λ block span gives. absurd (cc)) whole
      (all_of (IsSpanNamed pairs size table refs) (items_of whole) item_named)

  inside_parts : (runs : List Run) (gone found staying : List Located) → IsPermutation (records_of whole) (gone ++ (found ++ staying))
      → map name_of found ≡ refs
      → ((span : Span) (at : ItemRef) → 0 < table span → SpanNames pairs span at → Contains refs at → AreInside runs (span ∷ []))
      → AreInside runs (filter_map (span_of size) found)
  inside_parts runs gone found staying perm names named span address has shows =
      let from = from_one (span_of size) found span has in
      let one = from.0 in
      let among : Contains (records_of whole) one =
      Contains-permutation (gone ++ (found ++ staying)) (records_of whole) one
      (IsPermutation-sym (records_of whole) (gone ++ (found ++ staying)) perm)
      (Contains-append_right gone (found ++ staying) one (Contains-append_left found staying one from.1)) in
      let listed : Contains refs (name_of one) = subst (λ rs. Contains rs (name_of one)) names (map_in name_of found one from.1) in
      let good = All-contains (IsSpanNamed pairs size table refs) (records_of whole) one all_named among span from.2 listed in
      named span (name_of one) good.1 good.0 listed span address (contains_first span []) shows

  -- all sectors of what is found are inside runs
  pub inside_found : (runs : List Run) (gone found staying : List Located) → IsPermutation (records_of whole) (gone ++ (found ++ staying))
      → map name_of found ≡ refs
      → ((span : Span) (at : ItemRef) → 0 < table span → SpanNames pairs span at → Contains refs at → AreInside runs (span ∷ []))
      → AreInside runs (spans_of size found)
  unfolding spans_of
  inside_found runs gone found staying perm names named = inside_parts runs gone found staying perm names named
