-- What a search of spans finds.
use Rattle.std.proofs.Common.{◌≡◌, ℕ, ◌+◌, ◌*◌, ◌^◌, ◌<◌, ◌≤◌, Bool, true, false, ◌&&◌, ◌⊎◌, inl, inr, List, refl, sym, ap, ◌∙◌, subst, arith}
use Rattle.std.specs.Prelude.{◌==◌, Option, Some, None}
use Rattle.std.specs.BTreeSet as set
use Rattle.std.specs.Ordering.{is_lt, nat_cmp, ordering_reverse, ordering_then}
use Rattle.std.specs.declared.cmp.Ordering.{Ordering}
use Rattle.std.specs.declared.cmp.Ordering.TheVariants.{Less, Equal, Greater}
use Rattle.span_index.specs.declared.span.SpanSort.{SpanSort}
use Rattle.span_index.specs.declared.span.SpanSort.TheVariants.{Owned, Summed, Shown}
use Rattle.span_index.specs.OrderLaws.{span_exact, span_total}
use Rattle.std.specs.Cmp.{nat_cmp_is}
use Rattle.live_index.specs.Pairs.{Pairs}
use Rattle.change_records.specs.Made.{has_name}
use Rattle.change_records.specs.declared.kept.Inode.{Inode}
use Rattle.verdict.specs.declared.place.Chunk.{Chunk}
use Rattle.std.specs.Option.{unwrap_or}
use Rattle.std.specs.Prelude.{slice_get}
use Rattle.std.proofs.lemmas.Option.{slice_get-get_or}
use Rattle.std.specs.Bool.{beq}
use Rattle.std.proofs.Common.{not, max, length, get_or, nat_lt}
use Rattle.std.proofs.lemmas.Bool.{and_from, and_parts, lt-ltb, ltb-true, or_left, both_ways, cases_lt, cases_order, eqb-true, or_cases, or_right}
use Rattle.live_index.proofs.PlaceLaws.{same_name}
use Rattle.change_records.proofs.HomeLaws.{one_chunk as some_chunk}
use Rattle.verdict.proofs.Numbers.{at_least}
use Rattle.verdict.proofs.Truth.{is_less}
use Rattle.accounts.specs.Context.{Context}
use Rattle.verdict.specs.OnDisk.{key_same}
use Rattle.span_index.specs.declared.span.Span.{Span}
use Rattle.span_index.specs.declared.span.SortName.{SortName}
use Rattle.span_index.specs.Order.{is_below, sort_cmp, span_cmp}
use Rattle.span_index.specs.Spans.{IsMeeting, IsNextShown, Table, end_of, is_above, is_behind, is_met, is_sort, offset_of, shows_behind}
use Rattle.change_records.specs.declared.item_ref.ItemRef.{ItemRef}
use Rattle.change_records.specs.Refs.{ref_cmp}
use Rattle.change_records.specs.Search.{AreAlone, AreLawful, Has, IsHit, IsLawfulSort, IsLawfulSpan, IsNameOf, IsShownBy, Known, MeetsChanged, MeetsChunk, Overlaps, ShowsChanged, Searched, SortDiffers, SpanDiffers, SpanNames, Takes}
use Rattle.change_records.proofs.MadeLaws.{name_put}

pub same_ref : (a b : ItemRef) → (a.tree == b.tree && key_same a.key b.key) ≡ true → a ≡ b
same_ref a b is =
    let both = and_parts (a.tree == b.tree) (key_same a.key b.key) is in
    let e1 : a.tree ≡ b.tree = eqb-true _ _ both.0 in
    let e2 : a.key ≡ b.key = same_name a.key b.key both.1 in
    λ i. record { tree = e1 i; key = e2 i }

pub taken : (k : Known) (span : Span) (name : ItemRef) (old new : set.BTreeSet ItemRef) → set.Updates ref_cmp old new name true → IsHit k span name
    → ((at : ItemRef) → SpanNames k.pairs span at → at ≡ name) → Takes k span old new
taken k span name old new updates hit only = record {
  stay = λ at had. name_put old new name at updates ∙ or_right (name.tree == at.tree && key_same name.key at.key) (set.contains ref_cmp old at) had;
  hold = λ at has.
      elim (or_cases (name.tree == at.tree && key_same name.key at.key) (set.contains ref_cmp old at) (sym (name_put old new name at updates) ∙ has)) [
        | inl same ↦ inr (subst (IsHit k span) (same_ref name at same) hit)
        | inr had ↦ inl had
      ];
  all = λ at its. subst (Has new) (sym (only at its.name)) updates.1;
}

pub taken_by : (k : Known) (pairs : Pairs) (span : Span) (name : ItemRef) (old new : set.BTreeSet ItemRef) → set.Updates ref_cmp old new name true → pairs ≡ k.pairs
    → IsNameOf pairs span (Some name) → has_name k.made name ≡ false → SpanDiffers k.before k.after span → Takes k span old new
taken_by k pairs span name old new updates same its kept differs =
    let mine = subst (λ p. IsNameOf p span (Some name)) same its in
    taken k span name old new updates (record { name = mine.0; kept = kept; differs = differs }) mine.1

-- the bytes of a lawful span that differs end at an address of 64 bits
small_sort : (n first sectors : ℕ) (sort : SpanSort) (before after : Context) → IsLawfulSort n first sectors sort → SortDiffers before after first sectors sort → sectors * 4096 < 2 ^ 64
small_sort n first sectors (Owned d) before after lawful differs = let fits = lawful.2 in omega (arith, fits)
small_sort n first sectors Summed before after lawful differs = absurd differs
small_sort n first sectors (Shown t i o e l) before after lawful differs = let inside = lawful.1 in let fits = lawful.2 in omega (arith, inside, fits)

pub small_span : (n : ℕ) (span : Span) (before after : Context) → IsLawfulSpan n span → SpanDiffers before after span → span.sectors * 4096 < 2 ^ 64
small_span n span before after lawful differs = small_sort n span.first span.sectors span.sort before after lawful differs

-- where the name of a span is none nothing is taken
pub taken_none : (k : Known) (pairs : Pairs) (span : Span) (old : set.BTreeSet ItemRef) → pairs ≡ k.pairs → IsNameOf pairs span None → Takes k span old old
taken_none k pairs span old same none = record {
  stay = λ at had. had;
  hold = λ at had. inl had;
  all = λ at hit. absurd (none at (subst (λ p. SpanNames p span at) (sym same) hit.name));
}

-- nor where a change names it
pub taken_named : (k : Known) (pairs : Pairs) (span : Span) (name : ItemRef) (old : set.BTreeSet ItemRef) → pairs ≡ k.pairs → IsNameOf pairs span (Some name)
    → has_name k.made name ≡ true → Takes k span old old
taken_named k pairs span name old same its named = record {
  stay = λ at had. had;
  hold = λ at had. inl had;
  all = λ at hit.
      let one : at ≡ name = its.1 at (subst (λ p. SpanNames p span at) (sym same) hit.name) in
      absurd (both_ways _ (subst (λ x. has_name k.made x ≡ false) one hit.kept) named);
}

-- ---- spans in their order

-- of two spans one is below the other, or they are one
below_by : (s t : Span) (o : Ordering) → span_cmp t s ≡ o → is_lt (ordering_reverse o) ≡ false → is_lt o ≡ false → s ≡ t
below_by s t Less e first second = absurd (cc)
below_by s t Equal e first second = sym (span_exact t s e)
below_by s t Greater e first second = absurd (cc)

below_cases : (s t : Span) → is_below s t ≡ false → is_below t s ≡ false → s ≡ t
unfolding is_below
below_cases s t first second = below_by s t (span_cmp t s) refl (sym (ap is_lt (span_total.antisymm s t)) ∙ first) second

pub below_first : (s t : Span) → s.first < t.first → is_below s t ≡ true
unfolding is_below
below_first s t small = ap (λ o. is_lt (ordering_then o (ordering_then (nat_cmp s.sectors t.sectors) (sort_cmp s.sort t.sort)))) (sym (nat_cmp_is s.first t.first Less small))

-- ---- a walk over the spans that a range meets

-- whether a span ends after an address and is above the last one
abbrev pub is_ahead : ℕ → Option Span → Span → Bool
is_ahead now after span = nat_lt now (end_of span) && is_above after span

-- the last one begins at an address at most
abbrev pub BeginsBy : ℕ → Option Span → Type 0
BeginsBy now None = Unit {0}
BeginsBy now (Some after) = after.first ≤ now

-- a span is one that a walk over a range has passed
abbrev pub IsWalked : SortName → ℕ → ℕ → ℕ → Option Span → Span → Type 0
IsWalked sort from until now after span = Overlaps sort from until span × (is_ahead now after span ≡ false)

met : (sort : SortName) (now : ℕ) (after : Option Span) (span : Span) → is_sort sort span.sort ≡ true → is_ahead now after span ≡ true
    → is_met sort now after span ≡ true
unfolding is_met
met sort now after span named ahead = and_from _ _ named ahead

-- a lawful span that posts otherwise has a sector
some_sort : (n first sectors : ℕ) (sort : SpanSort) (before after : Context) → IsLawfulSort n first sectors sort
    → SortDiffers before after first sectors sort → 0 < sectors
some_sort n first sectors (Owned d) before after lawful differs = lawful.0
some_sort n first sectors Summed before after lawful differs = absurd differs
some_sort n first sectors (Shown t i o e l) before after lawful differs = differs.0

not_both : (x y : Span) → is_below y x ≡ true → is_below x y ≡ false
unfolding is_below
not_both x y less = ap is_lt (span_total.antisymm x y ∙ ap ordering_reverse (is_less (span_cmp y x) less))

-- one above another that ends where that begins has none
none_left : (now : ℕ) (next span : Span) → is_below next span ≡ true → now < end_of span → nat_lt (max now next.first) (end_of span) ≡ false → span.sectors ≡ 0
none_left now next span above ends passed = elim (cases_lt span.first next.first) [
  | inl sooner ↦ absurd (both_ways _ (not_both next span (below_first span next sooner)) above)
  | inr later ↦
      let low : end_of span ≤ max now next.first = at_least (max now next.first) (end_of span) passed in
      omega (arith, later, low, ends)
]

pub walk_more : (k : Known) (n : ℕ) (table : Table) (sort : SortName) (from until now : ℕ) (after : Option Span) (next : Span)
    (start old new : set.BTreeSet ItemRef) → AreLawful n table → IsMeeting table sort now after (Some next)
    → Searched k table (IsWalked sort from until now after) start old → Takes k next old new
    → Searched k table (IsWalked sort from until (max now next.first) (Some next)) start new
walk_more k n table sort from until now after next start old new lawful least searched takes = record {
  stay = λ at had. takes.stay at (searched.stay at had);
  hold = λ at has. elim (takes.hold at has) [
    | inl early ↦ searched.hold at early
    | inr hit ↦ inr (next, least.0, hit)
  ];
  all = λ span at stands reached hit. by span at stands reached hit (is_ahead now after span) refl (is_below span next) refl (is_below next span) refl;
}
  where
    by : (span : Span) (at : ItemRef) → 0 < table span → IsWalked sort from until (max now next.first) (Some next) span → IsHit k span at
        → (b : Bool) → is_ahead now after span ≡ b → (c : Bool) → is_below span next ≡ c → (d : Bool) → is_below next span ≡ d → Has new at
    by span at stands reached hit false ahead c below d above = takes.stay at (searched.all span at stands (reached.0, ahead) hit)
    by span at stands reached hit true ahead true below d above =
        let none : table span ≡ 0 = least.2 span (met sort now after span reached.0.0 ahead) below in absurd (omega (arith, none, stands))
    by span at stands reached hit true ahead false below false above = takes.all at (subst (λ s. IsHit k s at) (below_cases span next below above) hit)
    by span at stands reached hit true ahead false below true above =
        let ends : now < end_of span = ltb-true now (end_of span) (and_parts (nat_lt now (end_of span)) (is_above after span) ahead).0 in
        let none : span.sectors ≡ 0 = none_left now next span above ends (passed (nat_lt (max now next.first) (end_of span)) above reached.1) in
        let some : 0 < span.sectors = some_sort n span.first span.sectors span.sort k.before k.after (lawful span stands) hit.differs in
        absurd (omega (arith, none, some))
      where
        passed : (b : Bool) → is_below next span ≡ true → (b && is_below next span) ≡ false → b ≡ false
        passed true above is = absurd (both_ways _ is above)
        passed false above is = refl

-- a walk that finds no more has passed all
pub walk_all : (k : Known) (table : Table) (sort : SortName) (from until now : ℕ) (after : Option Span) (start old : set.BTreeSet ItemRef)
    → IsMeeting table sort now after None → Searched k table (IsWalked sort from until now after) start old
    → Searched k table (Overlaps sort from until) start old
walk_all k table sort from until now after start old none searched = record {
  stay = searched.stay;
  hold = searched.hold;
  all = λ span at stands reached hit. by span at stands reached hit (is_ahead now after span) refl;
}
  where
    by : (span : Span) (at : ItemRef) → 0 < table span → Overlaps sort from until span → IsHit k span at → (b : Bool) → is_ahead now after span ≡ b → Has old at
    by span at stands reached hit false ahead = searched.all span at stands (reached, ahead) hit
    by span at stands reached hit true ahead =
        let gone : table span ≡ 0 = none span (met sort now after span reached.0 ahead) in absurd (omega (arith, gone, stands))

-- nor does one that comes to a span behind the range pass by any
pub walk_behind : (k : Known) (table : Table) (sort : SortName) (from until now : ℕ) (after : Option Span) (next : Span)
    (start old : set.BTreeSet ItemRef) → IsMeeting table sort now after (Some next) → until ≤ next.first
    → Searched k table (IsWalked sort from until now after) start old → Searched k table (Overlaps sort from until) start old
walk_behind k table sort from until now after next start old least behind searched = record {
  stay = searched.stay;
  hold = searched.hold;
  all = λ span at stands reached hit. by span at stands reached hit (is_ahead now after span) refl;
}
  where
    by : (span : Span) (at : ItemRef) → 0 < table span → Overlaps sort from until span → IsHit k span at → (b : Bool) → is_ahead now after span ≡ b → Has old at
    by span at stands reached hit false ahead = searched.all span at stands (reached, ahead) hit
    by span at stands reached hit true ahead =
        let sooner : span.first < next.first = omega (arith, reached.2, behind) in
        let gone : table span ≡ 0 = least.2 span (met sort now after span reached.0 ahead) (below_first span next sooner) in absurd (omega (arith, gone, stands))

-- ---- a walk over what an inode shows

-- a span is one that a walk over a file has passed
abbrev pub IsRead : ℕ → ℕ → Option ℕ → Span → Type 0
IsRead tree ino after span = IsShownBy tree ino span × (is_behind after (offset_of span.sort) ≡ false)

shows : (tree ino : ℕ) (after : Option ℕ) (sort : SpanSort) → shows_behind tree ino None sort ≡ true → is_behind after (offset_of sort) ≡ true → shows_behind tree ino after sort ≡ true
shows tree ino after (Owned d) shown behind = absurd (cc)
shows tree ino after Summed shown behind = absurd (cc)
shows tree ino after (Shown t i o e l) shown behind =
    let first = and_parts (t == tree) (i == ino && true) shown in
    let rest = and_parts (i == ino) true first.1 in
    and_from _ _ first.0 (and_from _ _ rest.0 behind)

pub shown_too : (tree ino : ℕ) (after : Option ℕ) (sort : SpanSort) → shows_behind tree ino after sort ≡ true → (shows_behind tree ino None sort ≡ true) × (is_behind after (offset_of sort) ≡ true)
shown_too tree ino after (Owned d) shown = absurd (cc)
shown_too tree ino after Summed shown = absurd (cc)
shown_too tree ino after (Shown t i o e l) shown =
    let first = and_parts (t == tree) (i == ino && is_behind after o) shown in
    let rest = and_parts (i == ino) (is_behind after o) first.1 in
    (and_from _ _ first.0 (and_from _ _ rest.0 refl), rest.1)

pub file_more : (k : Known) (table : Table) (tree ino : ℕ) (after : Option ℕ) (next : Span) (start old new : set.BTreeSet ItemRef) → AreAlone table
    → IsNextShown table tree ino after (Some next) → Searched k table (IsRead tree ino after) start old → Takes k next old new
    → Searched k table (IsRead tree ino (Some (offset_of next.sort))) start new
file_more k table tree ino after next start old new alone least searched takes = record {
  stay = λ at had. takes.stay at (searched.stay at had);
  hold = λ at has. elim (takes.hold at has) [
    | inl early ↦ searched.hold at early
    | inr hit ↦ inr (next, least.0, hit)
  ];
  all = λ span at stands reached hit. by span at stands reached hit (is_behind after (offset_of span.sort)) refl (cases_order (offset_of span.sort) (offset_of next.sort));
}
  where
    by : (span : Span) (at : ItemRef) → 0 < table span → IsRead tree ino (Some (offset_of next.sort)) span → IsHit k span at → (b : Bool) → is_behind after (offset_of span.sort) ≡ b
        → (offset_of span.sort ≡ offset_of next.sort) ⊎ ((offset_of span.sort < offset_of next.sort) ⊎ (offset_of next.sort < offset_of span.sort)) → Has new at
    by span at stands reached hit false behind order = takes.stay at (searched.all span at stands (reached.0, behind) hit)
    by span at stands reached hit true behind (inl same) =
        let one : span ≡ next = alone tree ino (offset_of next.sort) span next stands least.0 (reached.0, same) ((shown_too tree ino after next.sort least.1).0, refl) in
        takes.all at (subst (λ s. IsHit k s at) one hit)
    by span at stands reached hit true behind (inr (inl sooner)) =
        let gone : table span ≡ 0 = least.2 span (shows tree ino after span.sort reached.0 behind) (or_left _ _ (lt-ltb _ _ sooner)) in absurd (omega (arith, gone, stands))
    by span at stands reached hit true behind (inr (inr later)) = absurd (both_ways _ reached.1 (lt-ltb _ _ later))

-- ---- searches one after the other

pub searched_less : (k : Known) (table : Table) (P Q : Span → Type 0) (old new : set.BTreeSet ItemRef) → ((span : Span) → Q span → P span) → Searched k table P old new
    → Searched k table Q old new
searched_less k table P Q old new less searched = record {
  stay = searched.stay;
  hold = searched.hold;
  all = λ span at stands reached hit. searched.all span at stands (less span reached) hit;
}

pub searched_both : (k : Known) (table : Table) (P Q R : Span → Type 0) (old mid new : set.BTreeSet ItemRef) → ((span : Span) → R span → P span ⊎ Q span)
    → Searched k table P old mid → Searched k table Q mid new → Searched k table R old new
searched_both k table P Q R old mid new parts first second = record {
  stay = λ at had. second.stay at (first.stay at had);
  hold = λ at has. elim (second.hold at has) [ inl early ↦ first.hold at early | inr late ↦ inr late ];
  all = λ span at stands reached hit. elim (parts span reached) [
    | inl one ↦ second.stay at (first.all span at stands one hit)
    | inr other ↦ second.all span at stands other hit
  ];
}

some_inode : (h g : Inode) → Some h ≡ Some g → h ≡ g
some_inode h g is = ap (λ o. unwrap_or o h) is

chunk_early : (chunks : List Chunk) (searched : Chunk → Bool) (i : ℕ) (span : Span) (m : MeetsChanged chunks searched (i + 1) span) → m.at < i → MeetsChanged chunks searched i span
chunk_early chunks searched i span m small = record { chunk = m.chunk; at = m.at; small = small; among = m.among; gone = m.gone; meets = m.meets }

-- the chunk that a meeting at the next place has
chunk_here : (chunks : List Chunk) (searched : Chunk → Bool) (i : ℕ) (d : Chunk) (span : Span) (m : MeetsChanged chunks searched (i + 1) span) → i < length chunks → i ≤ m.at
    → m.chunk ≡ get_or chunks i d
chunk_here chunks searched i d span m within late =
    let here : m.at ≡ i = let small = m.small in omega (arith, small, late) in
    some_chunk m.chunk (get_or chunks i d) (sym m.among ∙ ap (slice_get chunks) here ∙ slice_get-get_or chunks i d within)

pub chunk_parts_more : (chunks : List Chunk) (searched : Chunk → Bool) (i : ℕ) (d : Chunk) (span : Span) → i < length chunks → MeetsChanged chunks searched (i + 1) span
    → MeetsChanged chunks searched i span ⊎ MeetsChunk (get_or chunks i d) span
chunk_parts_more chunks searched i d span within m = elim (cases_lt m.at i) [
  | inl early ↦ inl (chunk_early chunks searched i span m early)
  | inr late ↦ inr (subst (λ c. MeetsChunk c span) (chunk_here chunks searched i d span m within late) m.meets)
]

pub chunk_kept_more : (chunks : List Chunk) (searched : Chunk → Bool) (i : ℕ) (d : Chunk) (span : Span) → i < length chunks → searched (get_or chunks i d) ≡ false
    → MeetsChanged chunks searched (i + 1) span → MeetsChanged chunks searched i span
chunk_kept_more chunks searched i d span within kept m = elim (cases_lt m.at i) [
  | inl early ↦ chunk_early chunks searched i span m early
  | inr late ↦ absurd (both_ways _ kept (ap searched (sym (chunk_here chunks searched i d span m within late)) ∙ m.gone))
]

inode_early : (inodes : List Inode) (before after : ℕ → ℕ → Bool) (i : ℕ) (span : Span) (m : ShowsChanged inodes before after (i + 1) span) → m.at < i
    → ShowsChanged inodes before after i span
inode_early inodes before after i span m small = record { inode = m.inode; at = m.at; small = small; among = m.among; other = m.other; shown = m.shown }

inode_here : (inodes : List Inode) (before after : ℕ → ℕ → Bool) (i : ℕ) (d : Inode) (span : Span) (m : ShowsChanged inodes before after (i + 1) span) → i < length inodes
    → i ≤ m.at → m.inode ≡ get_or inodes i d
inode_here inodes before after i d span m within late =
    let here : m.at ≡ i = let small = m.small in omega (arith, small, late) in
    some_inode m.inode (get_or inodes i d) (sym m.among ∙ ap (slice_get inodes) here ∙ slice_get-get_or inodes i d within)

pub inode_parts_more : (inodes : List Inode) (before after : ℕ → ℕ → Bool) (i : ℕ) (d : Inode) (span : Span) → i < length inodes → ShowsChanged inodes before after (i + 1) span
    → ShowsChanged inodes before after i span ⊎ IsShownBy (get_or inodes i d).tree (get_or inodes i d).ino span
inode_parts_more inodes before after i d span within m = elim (cases_lt m.at i) [
  | inl early ↦ inl (inode_early inodes before after i span m early)
  | inr late ↦ inr (subst (λ n. IsShownBy n.tree n.ino span) (inode_here inodes before after i d span m within late) m.shown)
]

pub inode_same_more : (inodes : List Inode) (before after : ℕ → ℕ → Bool) (i : ℕ) (d : Inode) (span : Span) → i < length inodes
    → after (get_or inodes i d).tree (get_or inodes i d).ino ≡ before (get_or inodes i d).tree (get_or inodes i d).ino → ShowsChanged inodes before after (i + 1) span
    → ShowsChanged inodes before after i span
inode_same_more inodes before after i d span within same m = elim (cases_lt m.at i) [
  | inl early ↦ inode_early inodes before after i span m early
  | inr late ↦
      absurd (m.other (subst (λ n. after n.tree n.ino ≡ before n.tree n.ino) (sym (inode_here inodes before after i d span m within late)) same))
]

pub beq_same : (a b : Bool) → not (beq a b) ≡ false → a ≡ b
beq_same true true is = refl
beq_same true false is = absurd (cc)
beq_same false true is = absurd (cc)
beq_same false false is = refl
