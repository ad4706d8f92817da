-- The looks of a commit that passes are bounded by its work.
use Rattle.std.proofs.Common.{◌≡◌, ℕ, ◌+◌, ◌*◌, ◌%◌, ◌<◌, ◌≤◌, Bool, true, false, cond, ◌&&◌, ◌||◌, List, [], ◌∷◌, ◌++◌, length, inl, inr, refl, ap, sym, ◌∙◌, subst, arith}
use Rattle.std.specs.Prelude.{◌⊎◌, ◌==◌, nat_lt, Ok, Result}
use Rattle.std.specs.List.{All, Contains, count_by, list_any, sum_by}
use Rattle.std.specs.Ordering.{nat_cmp}
use Rattle.std.specs.FinMap.{FinMap}
use Rattle.std.proofs.Math.Path.{fun_ext}
use Rattle.std.proofs.lemmas.Bool.{and_from, and_parts, cases_lt, eq-eqb, eqb-true, lt-ltb, ltb-true, or_cases, or_left, or_right}
use Rattle.std.proofs.lemmas.List.Elements.{All-contains}
use Rattle.std.proofs.lemmas.List.Sums.{sum_by-cons}
use Rattle.commit_laws.proofs.named_items.Named.{any_from}
use Rattle.commit_laws.proofs.other_images.Frame.{same_held}
use Rattle.verdict.specs.declared.place.Chunk.{Chunk}
use Rattle.super_reader.specs.declared.Super.{Super}
use Rattle.write_cache.specs.Cache.{overlaid}
use Rattle.accounts.specs.Context.{Context, no_full}
use Rattle.accounts.specs.declared.postings.Posting.{Posting}
use Rattle.change_records.proofs.Merge.{contains_first, contains_more, contains_none}
use Rattle.change_records.specs.Looks.{AreHoused, HaveStops, is_reached, is_turned, most_looks, spans_of as spans_of_items}
use Rattle.change_records.specs.SumFree.{flags_after}
use Rattle.records.specs.Contents.{Contents, contents}
use Rattle.records.specs.Context.{has_sum_free}
use Rattle.records.specs.SpacePostings.{is_to_sector}
use Rattle.tree_laws.specs.LivePairs.{Walked, walked}
use Rattle.span_index.specs.Sectors.{counts, has_sector, times_of_span}
use Rattle.span_index.specs.Spans.{Table, end_of}
use Rattle.span_index.specs.declared.span.Span.{Span}
use Rattle.tree_change.specs.FewLooks.{few_looks}
use Rattle.tree_change.specs.LooksLaw.{entries_of}
use Rattle.tree_change.specs.OneTree.{side_of}
use Rattle.commit_laws.specs.Commit.{Commit, IsCommit, IsKnown, IsMoved, Known, came_by, context_by, gone_by}
use Rattle.commit_laws.specs.Items.{items_of}
use Rattle.commit_laws.specs.Same.{HeldLaw, records_of}
use Rattle.commit_laws.specs.Sound.{IsSound, IsWhole, KnownSpansLaw, SoundLaw, SpansStand}
use Rattle.commit_laws.specs.Steps.{spans_of, step_posts}
use Rattle.commit_laws.proofs.whole_commits.Named.{spans_are}
use Rattle.commit_laws.proofs.whole_commits.Spans.{same_sums, there}
use Rattle.lookup_bounds.specs.Blocks.{AreBlocksCounted, BlocksCountedLaw}
use Rattle.lookup_bounds.specs.Housed.{AreSpansHoused, HousedLaw}
use Rattle.lookup_bounds.specs.Named.{AreSectorsNamed, NamedLaw, is_named_sector, names_sector}
use Rattle.lookup_bounds.specs.Pieces.{HasPieces, PiecesLaw}
use Rattle.lookup_bounds.specs.Postings.{ArePostingsFew, IsPassage, PostingsLaw}
use Rattle.tree_change.specs.Accepted.{unshared_old}
use Rattle.lookup_bounds.specs.Work.{by_walk, has_named, is_flagged, is_met, new_postings, old_postings, runs_in, spans_in, spans_where, unshared_blocks, unshared_entries, unshared_new, work_between, work_of}
use Rattle.commit_judge.specs.Looks.{AreFewLooks, FewLooksLaw, FewToJudge, changed_posts, changed_spans, have_common, meets_changed, table_after}
use Rattle.commit_judge.specs.Moves.{any_counted, context_after}
use Rattle.commit_judge.specs.Tables.{with_spans, without_spans}
use Rattle.commit_judge.specs.Work.{LeadsTo, PlansByFew, WorkLaw}
use Rattle.commit_judge.proofs.judgements.Looks.{count_le, found_in, has_from, whole}
use Rattle.commit_judge.proofs.judgements.Moves.{spans_whole}

-- the laws that it rests on
pub record Laws : Type 0 where
  pub held : HeldLaw
  pub spans : KnownSpansLaw
  pub sound : SoundLaw
  pub few : FewLooksLaw
  pub postings : PostingsLaw
  pub blocks : BlocksCountedLaw
  pub housed : HousedLaw
  pub named : NamedLaw
  pub pieces : PiecesLaw

-- ---- members

-- ---- sectors

-- two spans with a sector in common, which both begin at one, both have the greater of their first ones
in_both : (one other : Span) → one.first % 4096 ≡ 0 → other.first % 4096 ≡ 0 → have_common one other ≡ true
    → (address : ℕ) × (has_sector one address ≡ true) × (has_sector other address ≡ true)
in_both one other first its_first common =
    let a = and_parts (nat_lt one.first (end_of other)) (nat_lt other.first (end_of one) && (nat_lt 0 one.sectors && nat_lt 0 other.sectors)) common in
    let b = and_parts (nat_lt other.first (end_of one)) (nat_lt 0 one.sectors && nat_lt 0 other.sectors) a.1 in
    let d = and_parts (nat_lt 0 one.sectors) (nat_lt 0 other.sectors) b.1 in
    let before : one.first < end_of other = ltb-true one.first (end_of other) a.0 in
    let behind : other.first < end_of one = ltb-true other.first (end_of one) b.0 in
    let some : 0 < one.sectors = ltb-true 0 one.sectors d.0 in
    let its : 0 < other.sectors = ltb-true 0 other.sectors d.1 in
    elim (cases_lt one.first other.first) [
      | inl less ↦ (
        other.first,
        has_from one other.first first its_first (omega (arith, less)) behind,
        has_from other other.first its_first its_first (omega arith) (omega (arith, its)),
      )
      | inr more ↦ (
        one.first,
        has_from one one.first first first (omega arith) (omega (arith, some)),
        has_from other one.first its_first first (omega (arith, more)) before,
      )
    ]

-- where a posting goes to a sector of a span, one goes to the span
named_span : (postings : List Posting) (span : Span) (address : ℕ) → names_sector postings address ≡ true → has_sector span address ≡ true
    → has_named postings span ≡ true
unfolding names_sector has_named
named_span [] span address is has = absurd (cc)
named_span (p ∷ ps) span address is has =
    elim (or_cases (is_to_sector p && p.account.block == address) (names_sector ps address) is) [
      | inl here ↦
          let both = and_parts (is_to_sector p) (p.account.block == address) here in
          or_left (is_to_sector p && has_sector span p.account.block) (has_named ps span)
          (and_from (is_to_sector p) (has_sector span p.account.block) both.0
          (subst (λ (a : ℕ). has_sector span a ≡ true) (sym (same p.account.block address both.1)) has))
      | inr later ↦ or_right (is_to_sector p && has_sector span p.account.block) (has_named ps span) (named_span ps span address later has)
    ]
  where
    same : (a b : ℕ) → (a == b) ≡ true → a ≡ b
    same a b is = eqb-true a b is

-- ---- the sum

-- What the parts of a commit cost, all in units of its work: the blocks of either image that are not shared, their entries, the postings that count,
-- the spans that are met, those that are flagged, the runs, and the chunks.
total : (first differed planned last blocks news entries more posts came met meets flagged flags runs chunks fresh : ℕ)
    (refs gone comes gone_spans came_spans changes old_items new_items moved found reached turned : ℕ)
    → differed ≤ first + (runs + 4 * chunks + fresh + 77 + 58 * blocks + 35 * news + 56 * entries + 4 * more)
    → planned ≤ differed + (6 * reached + 2 * turned + 2 * (chunks + fresh) + 2 * changes)
    → last ≤ planned + 4 * refs + 2 * (gone + comes) + 4 * (gone_spans + came_spans) + found + 3 + (blocks + news + moved)
    → reached ≤ met + 2 * posts → turned ≤ flagged → found ≤ meets
    → gone ≤ posts + 2 * blocks + 1 → comes ≤ came + 2 * news + 1 → refs ≤ posts + came
    → gone_spans ≤ old_items → came_spans ≤ new_items → changes ≤ old_items + new_items → old_items ≤ entries → new_items ≤ more
    → moved ≤ 2 + (more + 8 * news + blocks) → 0 < chunks
    → last ≤ first + 64 * ((blocks + news) + (entries + more) + (posts + came) + (met + meets) + (flagged + flags) + runs + (chunks + fresh) + 1)
total first differed planned last blocks news entries more posts came met meets flagged flags runs chunks fresh refs gone comes gone_spans
    came_spans changes old_items new_items moved found reached turned a b c d e f g h i j k l m n o p =
    omega (arith, a, b, c, d, e, f, g, h, i, j, k, l, m, n, o, p)

-- what each part costs, in the same units
difference_sum : (first differed pieces runs chunks fresh olds blocks newer news olde entries newe more : ℕ)
    → differed ≤ first + (pieces + 4 * chunks + fresh + 77 + 58 * olds + 35 * newer + 56 * olde + 4 * newe)
    → pieces ≡ runs → olds ≡ blocks → newer ≡ news → olde ≡ entries → newe ≡ more
    → differed ≤ first + (runs + 4 * chunks + fresh + 77 + 58 * blocks + 35 * news + 56 * entries + 4 * more)
difference_sum first differed pieces runs chunks fresh olds blocks newer news olde entries newe more few a b c d e = omega (arith, few, a, b, c, d, e)

search_sum : (differed planned reached turned olds chunks newer fresh changes : ℕ)
    → planned ≤ differed + (6 * reached + 2 * turned + 2 * (olds + newer) + 2 * changes) → olds ≡ chunks → newer ≡ fresh
    → planned ≤ differed + (6 * reached + 2 * turned + 2 * (chunks + fresh) + 2 * changes)
search_sum differed planned reached turned olds chunks newer fresh changes few a b = omega (arith, few, a, b)

judge_sum : (planned last refs gone comes gone_spans came_spans found olds blocks newer news moved : ℕ)
    → last ≤ planned + 4 * refs + 2 * (gone + comes) + 4 * (gone_spans + came_spans) + found + 3 + (olds + newer + moved) → olds ≡ blocks → newer ≡ news
    → last ≤ planned + 4 * refs + 2 * (gone + comes) + 4 * (gone_spans + came_spans) + found + 3 + (blocks + news + moved)
judge_sum planned last refs gone comes gone_spans came_spans found olds blocks newer news moved few a b = omega (arith, few, a, b)

moved_sum : (moved newe more newer news olds blocks : ℕ) → moved ≤ 2 + (newe + 8 * newer + olds) → newe ≡ more → newer ≡ news → olds ≡ blocks
    → moved ≤ 2 + (more + 8 * news + blocks)
moved_sum moved newe more newer news olds blocks few a b c = omega (arith, few, a, b, c)

equal_le : (a b : ℕ) → a ≡ b → a ≤ b
equal_le a b same = omega (arith, same)

-- ---- a commit between two images

-- what is known of an image, by its walks
record IsOfWalks (k : Known) (whole : Walked) : Type 0 where
  pub sup : k.sup ≡ whole.sup
  pub chunks : k.chunks ≡ whole.chunks
  pub free : k.free ≡ has_sum_free (records_of whole)

of_walks : HeldLaw → (image : List ℕ) (k : Known) (known : IsKnown image k) → IsOfWalks k known.bases.trees
of_walks held image k known =
    let b = known.bases in
    let h = held image b.trees b.walks in
    let same : h.0 ≡ b.held = same_held image h.0 b.held h.1 b.holds in
    record {
      sup = b.super_is ∙ ap (λ (c : Contents). c.sup) (sym same) ∙ h.2.sup;
      chunks = b.chunks_are ∙ ap (λ (c : Contents). c.chunks) (sym same) ∙ h.2.chunks;
      free = fun_ext (λ tree. fun_ext (λ ino. b.free_are tree ino
          ∙ ap (λ (c : Contents). has_sum_free c.records tree ino) (sym same)
          ∙ ap (λ records. has_sum_free records tree ino) h.2.records));
    }

module _ (laws : Laws) (image : List ℕ) (pending : FinMap nat_cmp ℕ) (k : Known) (c : Commit) (first middle last : ℕ) (known : IsKnown image k)
    (commit : IsCommit image pending k c) (leads : LeadsTo (overlaid pending 0 image) k c) (plans : PlansByFew image pending k c first middle)
    (judges : FewToJudge k c middle last) where
  abbrev old : Walked
  old = known.bases.trees

  abbrev new : Walked
  new = leads.known.bases.trees

  abbrev next : Known
  next = leads.next

  passage : IsPassage image pending k next c old new
  passage = record {
    known = known;
    commit = commit;
    moved = leads.moved;
    known_then = leads.known;
    was = known.bases.walks;
    is = leads.known.bases.walks;
  }

  was_is : IsOfWalks k old
  was_is = of_walks laws.held image k known

  now_is : IsOfWalks next new
  now_is = of_walks laws.held (overlaid pending 0 image) next leads.known

  map_is : c.change.map ≡ new.chunks
  map_is = sym leads.moved.chunks ∙ now_is.chunks

  flags_are : flags_after c.change.old_items.items c.change.new_items.items c.changes k.free ≡ next.free
  flags_are = fun_ext (λ tree. fun_ext (λ ino. sym (leads.moved.free tree ino)))

  context_is : context_by next ≡ context_after k c
  context_is = λ i. record { chunks = leads.moved.chunks i; nodesize = (leads.moved.sup i).nodesize; sum_free = sym flags_are i; full = no_full }

  housed : AreSpansHoused image pending k c old new
  housed = laws.housed image pending k next c old new passage

  named : AreSectorsNamed image pending k next c old new
  named = laws.named image pending k next c old new passage

  stand : SpansStand k
  stand = laws.spans image k known

  sound : IsSound k c
  sound = laws.sound image pending k c known commit

  few : AreFewLooks k c middle last
  few = laws.few k c middle last stand sound judges

  -- the old spans
  spans_is : spans_of_items k.sup.nodesize (items_of old) ≡ spans_in old
  spans_is = ap (λ (s : Super). spans_of_items s.nodesize (items_of old)) was_is.sup

  turned : count_by (is_turned k.free (flags_after c.change.old_items.items c.change.new_items.items c.changes k.free)) (spans_in old)
      ≡ count_by (is_flagged old new) (spans_in old)
  turned = λ i. count_by (is_turned (was_is.free i) ((flags_are ∙ now_is.free) i)) (spans_in old)

  -- a span that begins at a sector and has one in common with a span that does so too, of which each sector is named, is met
  meets_one : (span other : Span) → span.first % 4096 ≡ 0 → other.first % 4096 ≡ 0
      → ((address : ℕ) → has_sector other address ≡ true → is_named_sector image pending old new address ≡ true)
      → have_common span other ≡ true → is_met image pending old new span ≡ true
  meets_one span other whole its each common =
      let at = in_both span other whole its common in
      named_span (old_postings image pending old new ++ new_postings image pending old new) span at.0 (each at.0 at.2) at.1

  abbrev gone : List Span
  gone = spans_of k.sup.nodesize (gone_by k c)

  abbrev came : List Span
  came = spans_of c.fresh.nodesize (came_by c)

  gone_whole : (span : Span) → Contains gone span → span.first % 4096 ≡ 0
  gone_whole span has = (All-contains IsWhole gone span (spans_whole k.sup.nodesize (gone_by k c) sound.gone) has).0

  came_whole : (span : Span) → Contains came span → span.first % 4096 ≡ 0
  came_whole span has = (All-contains IsWhole came span (spans_whole c.fresh.nodesize (came_by c) sound.came) has).0

  -- each span behind the moves that has a sector in common with a changed one is met
  meets_met : (span : Span) → IsWhole span → meets_changed k c few.found span ≡ true → is_met image pending old new span ≡ true
  meets_met span whole is =
      elim (or_cases (any_counted (context_by k) (have_common span) gone) (any_counted (context_after k c) (have_common span) came
      || list_any (have_common span) few.found) is) [
        | inl was ↦
            let one = any_from (λ (s : Span). counts (context_by k) s s.sort && have_common span s) gone was in
            let both = and_parts (counts (context_by k) one.0 one.0.sort) (have_common span one.0) one.2 in
            meets_one span one.0 whole.0 (gone_whole one.0 one.1) (λ address has. named.gone one.0 address one.1 both.0 has) both.1
        | inr rest ↦ elim (or_cases (any_counted (context_after k c) (have_common span) came) (list_any (have_common span) few.found) rest) [
          | inl now ↦
              let one = any_from (λ (s : Span). counts (context_after k c) s s.sort && have_common span s) came now in
              let both = and_parts (counts (context_after k c) one.0 one.0.sort) (have_common span one.0) one.2 in
              meets_one span one.0 whole.0 (came_whole one.0 one.1)
              (λ address has. named.came one.0 address one.1
              (subst (λ (x : Context). counts x one.0 one.0.sort ≡ true) (sym context_is) both.0) has) both.1
          | inr found ↦
              let one = any_from (have_common span) few.found found in
              let stands = few.found_stand one.0 one.1 in
              let name = few.found_named named.names one.0 one.1 in
              meets_one span one.0 whole.0 (stand.whole one.0 stands).0
              (λ address has. named.found one.0 name.0 address stands name.2 name.1 has) one.2
        ]
      ]

  -- the spans behind the moves are those of the new image
  times_is : (span : Span) → times_of_span few.spans span ≡ times_of_span (spans_in new) span
  unfolding with_spans without_spans
  times_is span =
      few.times span ∙ sym (leads.moved.spans span) ∙ leads.known.spans span
      ∙ ap (λ (xs : List Span). times_of_span xs span) (held_spans ∙ spans_are new.sup.nodesize new)
    where
      held_spans : spans_of next.sup.nodesize leads.known.bases.held.records ≡ spans_of new.sup.nodesize (records_of new)
      held_spans =
          let b = leads.known.bases in
          let h = laws.held (overlaid pending 0 image) new b.walks in
          let same : h.0 ≡ b.held = same_held (overlaid pending 0 image) h.0 b.held h.1 b.holds in
          λ i. spans_of (now_is.sup i).nodesize ((ap (λ (x : Contents). x.records) (sym same) ∙ h.2.records) i)

  met : count_by (meets_changed k c few.found) few.spans ≤ count_by (is_met image pending old new) (spans_in new)
  met =
      let most : count_by (meets_changed k c few.found) few.spans ≤ count_by (is_met image pending old new) few.spans =
      count_le (meets_changed k c few.found) (is_met image pending old new) few.spans
      (λ span has. meets_met span (whole k c middle last stand sound judges span
      (subst (λ n. 0 < n) (few.times span) (there few.spans span has)))) in
      let same : count_by (is_met image pending old new) few.spans ≡ count_by (is_met image pending old new) (spans_in new) =
      same_sums (λ span. cond (is_met image pending old new span) 1 0) few.spans (spans_in new) times_is in
      omega (arith, most, same)

  work_is : work_between image pending ≡ work_of image pending old new
  unfolding work_between
  work_is =
      ap (by_walk (λ was. by_walk (λ is. work_of image pending was is) (walked (overlaid pending 0 image)))) known.bases.walks
      ∙ ap (by_walk (λ is. work_of image pending old is)) leads.known.bases.walks

  looks : last ≤ first + 64 * work_of image pending old new
  unfolding work_of unshared_blocks unshared_entries most_looks
  looks =
      let posts = laws.postings image pending k next c old new passage in
      let blocks = laws.blocks image pending k next c old new passage in
      let pieces = laws.pieces pending in
      let judged = overlaid pending 0 image in
      let differs = plans.differs old new known.bases.walks leads.known.bases.walks pieces.pieces pieces.are in
      let finds =
      subst (λ (spans : List Span). middle ≤ plans.middle + (6 * count_by (is_reached k.chunks c.change.map) housed.stops
      + 2 * count_by (is_turned k.free (flags_after c.change.old_items.items c.change.new_items.items c.changes k.free)) spans
      + 2 * (length k.chunks + length c.change.map) + 2 * length c.changes)) spans_is
      (plans.finds (items_of old) housed.items housed.stops (subst (λ (spans : List Span). HaveStops spans housed.stops) (sym spans_is) housed.stand)
      housed.old_apart housed.new_apart housed.housed) in
      let moved = plans.moved old new known.bases.walks leads.known.bases.walks in
      let came_posts : length (step_posts (context_after k c) (came_by c) c.refs)
      ≤ length (new_postings image pending old new) + 2 * length (unshared_new image pending old new) + 1 =
      subst (λ (x : Context). length (step_posts x (came_by c) c.refs)
      ≤ length (new_postings image pending old new) + 2 * length (unshared_new image pending old new) + 1) context_is posts.came in
      total first plans.middle middle last
      (length (unshared_old image pending old new)) (length (unshared_new image pending old new))
      (entries_of (side_of image old) (unshared_old image pending old new)) (entries_of (side_of judged new) (unshared_new image pending old new))
      (length (old_postings image pending old new)) (length (new_postings image pending old new))
      (count_by (is_met image pending old new) (spans_in old)) (count_by (is_met image pending old new) (spans_in new))
      (count_by (is_flagged old new) (spans_in old)) (count_by (is_flagged old new) (spans_in new))
      (runs_in pending) (length old.chunks) (length new.chunks)
      (length c.refs) (length (step_posts (context_by k) (gone_by k c) c.refs)) (length (step_posts (context_after k c) (came_by c) c.refs))
      (length gone) (length came) (length c.changes) (length c.change.old_items.items) (length c.change.new_items.items)
      (length c.change.moved.items) (count_by (meets_changed k c few.found) few.spans)
      (count_by (is_reached k.chunks c.change.map) housed.stops)
      (count_by (is_turned k.free (flags_after c.change.old_items.items c.change.new_items.items c.changes k.free)) (spans_in old))
      (difference_sum first plans.middle _ _ _ _ _ _ _ _ _ _ _ _ differs pieces.count blocks.old_blocks blocks.new_blocks blocks.old_entries blocks.new_entries)
      (search_sum plans.middle middle _ _ _ _ _ _ _ finds (ap length was_is.chunks) (ap length map_is))
      (judge_sum middle last _ _ _ _ _ _ _ _ _ _ _ few.few blocks.old_blocks blocks.new_blocks)
      housed.few (equal_le _ _ turned) met posts.gone came_posts posts.refs blocks.gone_spans blocks.came_spans blocks.changes blocks.old_items blocks.new_items
      (moved_sum _ _ _ _ _ _ _ moved blocks.new_entries blocks.new_blocks blocks.old_blocks)
      (subst (λ (m : List Chunk). 0 < length m) was_is.chunks housed.some)

pub work : Laws → WorkLaw
work laws image pending k c first middle last known commit leads plans judges =
    subst (λ n. last ≤ first + 64 * n) (sym (work_is laws image pending k c first middle last known commit leads plans judges))
    (looks laws image pending k c first middle last known commit leads plans judges)
