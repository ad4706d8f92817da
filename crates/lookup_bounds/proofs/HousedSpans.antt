-- The spans that extents own and that files show lie in extents, and these in chunks.
use Rattle.std.proofs.Common.{◌≡◌, ℕ, ◌+◌, ◌-◌, ◌*◌, ◌/◌, ◌%◌, ◌<◌, ◌==◌, ◌||◌, Bool, true, false, not, cond, List, inl, inr, refl, sym, ap, ◌∙◌, subst, arith}
use Rattle.std.proofs.Math.Nat.{mul-add-mod_self_right}
use Rattle.std.proofs.lemmas.Bool.{and_from, and_parts, cases_lt, eq-eqb, eqb-true, le-leb, lt-ltb}
use Rattle.std.proofs.lemmas.List.Elements.{recursion_from_All}
use Rattle.std.proofs.lemmas.Nat.{div-add-mod', mod_below}
use Rattle.std.specs.Prelude.{◌≤◌, ◌⊎◌, Option, Some, None, IsSome, option_map}
use Rattle.std.specs.List.{Contains}
use Rattle.change_records.proofs.PostingLaws.{one_span}
use Rattle.verdict.proofs.Truth.{false_of_not, or_right}
use Rattle.verdict.proofs.Numbers.{not_zero}
use Rattle.verdict.specs.Chunks.{home}
use Rattle.verdict.specs.declared.place.Chunk.{Chunk}
use Rattle.extent_items.specs.ExtentRow.{ExtentFields}
use Rattle.fs_items.specs.declared.file_extent.FileExtent.{FileExtent}
use Rattle.accounts.specs.Context.{home_in}
use Rattle.accounts.specs.Kinds.{sector}
use Rattle.accounts.specs.Least.{is_broken_by}
use Rattle.accounts.specs.declared.account.Account.{Account}
use Rattle.accounts.specs.declared.postings.Posting.{Posting}
use Rattle.live_index.specs.declared.live.Live.{Live}
use Rattle.span_index.specs.Sectors.{has_sector}
use Rattle.span_index.specs.Spans.{end_of}
use Rattle.span_index.specs.declared.span.Span.{Span}
use Rattle.records.specs.ExtentPostings.{has_extent}
use Rattle.records.specs.Part.{AreSectors, IsLawful, Located, Part}
use Rattle.records.specs.Part.Part.{ExtentPart, FileExtentPart, SumsPart}
use Rattle.records.specs.Postings.{all_postings, postings_of}
use Rattle.tree_laws.specs.LivePairs.{Walked}
use Rattle.change_records.specs.Homes.{StandApart, is_kept}
use Rattle.change_records.specs.Looks.{IsHoused, LiesInExtent, home_of_span, is_empty_shown, is_gone, is_of_extent, is_reached}
use Rattle.change_records.specs.Spans.{IsLawfulExtent, IsLawfulIn, IsLawfulRange, extent_bytes, extent_span, is_written, shown_span, span_in}
use Rattle.change_records.specs.Spans.{span_of, sums_span}
use Rattle.change_records.proofs.Merge.{from_one}
use Rattle.commit_laws.specs.Items.{ItemsStand, items_of}
use Rattle.commit_laws.specs.Same.{records_of}
use Rattle.commit_laws.proofs.Elements.{Among}
use Rattle.commit_laws.proofs.accepted.Sums.{all_among}
use Rattle.lookup_bounds.specs.Work.{context_in, has_named, items_that_count, posts_otherwise, spans_in, stands_in}
use Rattle.lookup_bounds.proofs.HousedExtents.{HasExtent, extent_home, item_of_record, range_extent, record_of_item}
use Rattle.lookup_bounds.proofs.HousedPosts.{among_of, filter_among, flat_among, gone_otherwise, made_of, names_span, posts_sector}
use Rattle.accounts.specs.Lent.{to}

-- The extent around a span: the span begins at one of its sectors or at its end, and lies inside of it. It has a sector, but where a file shows
-- none. Where the span lies is where the extent does.
pub record Around (whole : Walked) (span : Span) : Type 0 where
  pub one : Located
  pub among : Among one (items_of whole)
  pub item : ExtentFields
  pub at : one.part ≡ ExtentPart item
  pub some : 0 < extent_bytes whole.sup.nodesize item
  pub full : extent_bytes whole.sup.nodesize item % 4096 ≡ 0
  pub index : ℕ
  pub first : span.first ≡ item.key.objectid + index * 4096
  pub inside : span.first + span.sectors * 4096 ≤ item.key.objectid + extent_bytes whole.sup.nodesize item
  pub sectors : is_empty_shown span ≡ false → 0 < span.sectors
  pub lies : LiesInExtent span.first span.sectors span.sort
  pub home_is : (chunks : List Chunk) → home_of_span chunks span ≡ home chunks item.key.objectid (extent_bytes whole.sup.nodesize item)

-- whole sectors of some bytes are no more than these
whole_sectors : (n : ℕ) → n / 4096 * 4096 ≤ n
whole_sectors n = let sum = div-add-mod' n 4096 in omega (arith, sum)

-- what lies between two sectors' starts is whole sectors
whole_between : (a o : ℕ) → a % 4096 ≡ 0 → (a + o) % 4096 ≡ 0 → o / 4096 * 4096 ≡ o
whole_between a o first later =
    let begin : a / 4096 * 4096 ≡ a = (let sum = div-add-mod' a 4096 in omega (arith, sum, first)) in
    let rest : o % 4096 ≡ 0 =
    sym (mul-add-mod_self_right (a / 4096) 4096 o) ∙ (ap (λ (n : ℕ). (n + o) % 4096) begin ∙ later) in
    let sum = div-add-mod' o 4096 in
    omega (arith, sum, rest)

-- a range of a file that was written has an extent
written_extent : (range : FileExtent) → is_written range ≡ true → has_extent range ≡ true
written_extent range written =
    let both = and_parts (range.sort == 1) (not (range.extent == 0)) written in
    and_from _ _ (no_zero range.sort (eqb-true range.sort 1 both.0)) both.1
  where
    no_zero : (n : ℕ) → n ≡ 1 → not (n == 0) ≡ true
    no_zero n is = rw is refl

index_small : (x index sectors bytes : ℕ) → 0 < sectors → x + index * 4096 + sectors * 4096 ≤ x + bytes → index < bytes / 4096
index_small x index sectors bytes some inside =
    let sum = div-add-mod' bytes 4096 in
    let low = mod_below bytes 4096 (omega arith) in
    omega (arith, some, inside, sum, low)

module _ (whole : Walked) (stand : ItemsStand whole.sup.nodesize (items_of whole))
    (fine : (account : Account) → is_broken_by (all_postings (context_in whole) (records_of whole)) account ≡ false) where
  abbrev n : ℕ
  n = whole.sup.nodesize

  lawful_at : (one : Located) → Among one (items_of whole) → IsLawfulIn n one one.part
  lawful_at one among =
      all_among (λ (x : Located). IsLawfulIn n x x.part) (items_of whole) one
      (recursion_from_All (λ (x : Located). IsLawfulIn n x x.part) (items_of whole) stand.lawful) among

  sound_at : (one : Located) → Among one (items_of whole) → IsLawful one.part
  sound_at one among =
      all_among (λ (x : Located). IsLawful x.part) (items_of whole) one
      (recursion_from_All (λ (x : Located). IsLawful x.part) (items_of whole) stand.sound) among

  -- what an extent owns is inside of it
  owned_around : (one : Located) (item : ExtentFields) → Among one (items_of whole) → one.part ≡ ExtentPart item → Around whole (extent_span n item)
  owned_around one item among at =
      let lawful : IsLawfulExtent n one item = subst (IsLawfulIn n one) at (lawful_at one among) in
      record {
        one = one;
        among = among;
        item = item;
        at = at;
        some = lawful.some;
        full = lawful.whole;
        index = 0;
        first = none item.key.objectid;
        inside = low item.key.objectid (extent_bytes n item) (whole_sectors (extent_bytes n item));
        sectors = λ not_empty. has_one (extent_bytes n item) lawful.whole lawful.some;
        lies = tt;
        home_is = λ chunks. ap (home chunks item.key.objectid) (whole_back (extent_bytes n item) lawful.whole);
      }
    where
      has_one : (b : ℕ) → b % 4096 ≡ 0 → 0 < b → 0 < b / 4096
      has_one b whole some = let sum = div-add-mod' b 4096 in omega (arith, sum, whole, some)

      whole_back : (b : ℕ) → b % 4096 ≡ 0 → b / 4096 * 4096 ≡ b
      whole_back b whole = let sum = div-add-mod' b 4096 in omega (arith, sum, whole)

      none : (a : ℕ) → a ≡ a + 0 * 4096
      none a = omega arith

      low : (a b : ℕ) → b / 4096 * 4096 ≤ b → a + b / 4096 * 4096 ≤ a + b
      low a b is = omega (arith, is)

  -- what a file shows of an extent is inside of it
  shown_around : (one : Located) (range : FileExtent) → Among one (items_of whole) → one.part ≡ FileExtentPart range → is_written range ≡ true
      → Around whole (shown_span one.tree range)
  shown_around one range among at written =
      let given : is_written range ≡ true → IsLawfulRange one range = subst (IsLawfulIn n one) at (lawful_at one among) in
      let lawful = given written in
      let some = not_zero range.extent (and_parts (range.sort == 1) (not (range.extent == 0)) written).1 in
      let sectors : 0 < range.extent → AreSectors (range.extent + range.offset) range.length = subst IsLawful at (sound_at one among) in
      let there : (range.extent + range.offset) % 4096 ≡ 0 = eqb-true _ _ (sectors some).0 in
      let found : HasExtent (context_in whole) (records_of whole) fine range =
      range_extent (context_in whole) (records_of whole) fine one range (record_of_item whole one among) at (written_extent range written) in
      let is = found.is in
      let item = is.item in
      let has : Among found.one (items_of whole) = item_of_record whole found.one item is.at found.among in
      let own : IsLawfulExtent n found.one item = subst (IsLawfulIn n found.one) is.at (lawful_at found.one has) in
      let start : item.key.objectid % 4096 ≡ 0 =
      eqb-true _ _ (subst IsLawful is.at (sound_at found.one has)) in
      let begin : range.extent % 4096 ≡ 0 = ap (λ (x : ℕ). x % 4096) (sym is.first) ∙ start in
      let steps = whole_between range.extent range.offset begin there in
      let bytes : extent_bytes n item ≡ range.extent_length = ap (λ b. cond b item.key.offset n) is.of_data ∙ is.size in
      record {
        one = found.one;
        among = has;
        item = item;
        at = is.at;
        some = own.some;
        full = own.whole;
        index = range.offset / 4096;
        first = at_first range.extent item.key.objectid range.offset is.first steps;
        inside = at_end range.extent item.key.objectid range.offset range.length range.extent_length (extent_bytes n item) is.first bytes
            lawful.inside;
        sectors = above_zero_by (range.length / 4096);
        lies = (above range.extent range.offset, ends range.extent range.offset range.length range.extent_length lawful.inside);
        home_is = λ chunks. sym (ap (λ (x : ℕ). home chunks x (extent_bytes n item)) is.first ∙ ap (home chunks range.extent) bytes);
      }
    where
      above_zero_by : (m : ℕ) → (m == 0) ≡ false → 0 < m
      above_zero_by m is = grind (arith, is)

      above : (e o : ℕ) → e ≤ e + o
      above e o = omega arith

      ends : (e o l m : ℕ) → o + l ≤ m → e + o + l / 4096 * 4096 ≤ e + m
      ends e o l m inside = let low = whole_sectors l in omega (arith, inside, low)

      at_first : (e x o : ℕ) → x ≡ e → o / 4096 * 4096 ≡ o → e + o ≡ x + o / 4096 * 4096
      at_first e x o same steps = omega (arith, same, steps)

      at_end : (e x o l m b : ℕ) → x ≡ e → b ≡ m → o + l ≤ m → e + o + l / 4096 * 4096 ≤ x + b
      at_end e x o l m b same size inside = let low = whole_sectors l in omega (arith, same, size, inside, low)

  written_around : (one : Located) (range : FileExtent) (span : Span) (b : Bool) → is_written range ≡ b → Among one (items_of whole)
      → one.part ≡ FileExtentPart range → cond b (Some (shown_span one.tree range)) None ≡ Some span → Around whole span
  written_around one range span false written among at is = absurd (cc)
  written_around one range span true written among at is =
      subst (Around whole) (one_span (shown_span one.tree range) span is) (shown_around one range among at written)

  part_around : (one : Located) (part : Part) (span : Span) → Among one (items_of whole) → one.part ≡ part → span_in n one.tree part ≡ Some span
      → is_of_extent span.sort ≡ true → Around whole span
  part_around one (ExtentPart item) span among at is of =
      subst (Around whole) (one_span (extent_span n item) span is) (owned_around one item among at)
  part_around one (FileExtentPart range) span among at is of = written_around one range span (is_written range) refl among at is
  part_around one (SumsPart item) span among at is of =
      let never : false ≡ true = subst (λ (s : Span). is_of_extent s.sort ≡ true) (sym (one_span (sums_span item) span is)) of in
      absurd (cc)
  part_around one part span among at is of = absurd (cc)

  -- each such span of the image has its extent
  pub span_around : (span : Span) → Contains (spans_in whole) span → is_of_extent span.sort ≡ true → Around whole span
  span_around span has of =
      let made = from_one (span_of n) (items_of whole) span has in
      part_around made.0 made.0.part span (among_of (items_of whole) made.0 made.1) refl made.2 of

  -- and that extent a chunk
  chunk_of : (span : Span) (e : Around whole span) → (c : Chunk) × (home whole.chunks e.item.key.objectid (extent_bytes n e.item) ≡ Some c)
  chunk_of span e =
      let x = e.item.key.objectid in
      let bytes = extent_bytes n e.item in
      let h = extent_home (context_in whole) (records_of whole) fine e.one e.item (record_of_item whole e.one e.among) e.at in
      let d = made_of (home whole.chunks x bytes) h.0 h.1 in
      (d.0, d.1)

  -- so the extent of a span that an extent owns or that a file shows lies whole in a chunk
  pub span_housed : (span : Span) → Contains (spans_in whole) span → is_of_extent span.sort ≡ true → IsHoused whole.chunks span
  span_housed span has of =
      let e = span_around span has of in
      let c = chunk_of span e in
      (e.lies, subst IsSome (sym (e.home_is whole.chunks ∙ c.1)) refl)

  module _ (other : Walked) (lives : List Live) (others : StandApart other.chunks) where
    abbrev counting : List Located
    counting = items_that_count (context_in whole) (context_in other) lives whole

    abbrev posts : List Posting
    posts = all_postings (context_in whole) counting

    -- What is posted near a span whose chunk another image does not keep: to its sectors where it has some, and to the sector where it
    -- begins or the one before.
    pub record Posts (span : Span) : Type 0 where
      pub named : 0 < span.sectors → has_named posts span ≡ true
      pub p : Posting
      pub among : Among p posts
      pub near : (span.first ≡ p.account.block) ⊎ (span.first ≡ p.account.block + 4096)

    pub span_reached : (span : Span) → Contains (spans_in whole) span → is_reached whole.chunks other.chunks span ≡ true → Posts span
    unfolding is_reached
    span_reached span has reached = record {
      named = named;
      p = near.0;
      among = near.1;
      near = near.2;
    }
      where
        parts : (is_of_extent span.sort ≡ true) × (is_gone other.chunks (home_of_span whole.chunks span) ≡ true)
        parts = and_parts (is_of_extent span.sort) (is_gone other.chunks (home_of_span whole.chunks span)) reached

        e : Around whole span
        e = span_around span has parts.0

        x : ℕ
        x = e.item.key.objectid

        bytes : ℕ
        bytes = extent_bytes n e.item

        c : (c : Chunk) × (home whole.chunks x bytes ≡ Some c)
        c = chunk_of span e

        gone : is_kept other.chunks c.0 ≡ false
        gone = false_of_not (is_kept other.chunks c.0) (subst (λ (o : Option Chunk). is_gone other.chunks o ≡ true) (e.home_is whole.chunks ∙ c.1) parts.1)

        counts : Among e.one counting
        counts =
            filter_among (λ one. stands_in lives one || posts_otherwise (context_in whole) (context_in other) one) (items_of whole) e.one e.among
            (or_right (stands_in lives e.one) (posts_otherwise (context_in whole) (context_in other) e.one)
            (gone_otherwise (context_in whole) (context_in other) e.one e.item c.0 e.at c.1 e.some others gone))

        its_home : option_map home_in (home whole.chunks x bytes) ≡ Some (home_in c.0)
        its_home = ap (option_map home_in) c.1

        own_sector : 0 < span.sectors → has_sector span span.first ≡ true
        own_sector some =
            let here : span.first ≤ span.first = omega arith in
            let before : span.first < end_of span = omega (arith, some) in
            and_from _ _ (le-leb _ _ here) (and_from _ _ (lt-ltb _ _ before) (eq-eqb (span.first % 4096) (span.first % 4096) refl))

        named : 0 < span.sectors → has_named posts span ≡ true
        named some =
            let inside : x + e.index * 4096 + span.sectors * 4096 ≤ x + bytes = subst (λ f. f + span.sectors * 4096 ≤ x + bytes) e.first e.inside in
            let small = index_small x e.index span.sectors bytes some inside in
            names_span (context_in whole) counting e.one e.item (home_in c.0) e.index span counts e.at its_home small
            (subst (λ f. has_sector span f ≡ true) e.first (own_sector some))

        posted : (k : ℕ) → k < bytes / 4096 → Among (to (sector (x + k * 4096)) 0 1) posts
        posted k small =
            flat_among (postings_of (context_in whole)) counting e.one (to (sector (x + k * 4096)) 0 1) counts
            (posts_sector (context_in whole) e.one e.item (home_in c.0) k e.at its_home small)

        near : (p : Posting) × Among p posts × ((span.first ≡ p.account.block) ⊎ (span.first ≡ p.account.block + 4096))
        near = by (cases_lt e.index (bytes / 4096))
          where
            last : (k f : ℕ) → bytes / 4096 ≤ k → f ≡ x + k * 4096 → f ≤ x + bytes → f ≡ x + (bytes / 4096 - 1) * 4096 + 4096
            last k f low is inside =
                let sum = div-add-mod' bytes 4096 in
                let full = e.full in
                let some = e.some in
                omega (arith, low, is, inside, sum, full, some)

            one_less : bytes / 4096 - 1 < bytes / 4096
            one_less =
                let sum = div-add-mod' bytes 4096 in
                let full = e.full in
                let some = e.some in
                omega (arith, sum, full, some)

            ends : span.first ≤ x + bytes
            ends = let inside = e.inside in omega (arith, inside)

            by : (e.index < bytes / 4096) ⊎ (bytes / 4096 ≤ e.index)
                → (p : Posting) × Among p posts × ((span.first ≡ p.account.block) ⊎ (span.first ≡ p.account.block + 4096))
            by (inl small) = (to (sector (x + e.index * 4096)) 0 1, posted e.index small, inl e.first)
            by (inr large) = (
              to (sector (x + (bytes / 4096 - 1) * 4096)) 0 1,
              posted (bytes / 4096 - 1) one_less,
              inr (last e.index span.first large e.first ends),
            )
