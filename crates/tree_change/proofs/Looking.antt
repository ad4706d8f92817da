-- The looks of the walks of trees.
use Rattle.std.proofs.Common.{◌≡◌, ℕ, ◌+◌, ◌*◌, ◌<◌, ◌≤◌, Bool, true, false, List, [], length, drop, get_or, Ok, Err, ap, arith, refl, subst, sym, ◌∙◌}
use Rattle.std.specs.Prelude.{Option, Some, None, IfSome, Result, if◌then◌else◌}
use Rattle.std.specs.List.{list_any}
use Rattle.std.specs.Ordering.{nat_cmp}
use Rattle.std.specs.FinMap.{FinMap, empty}
use Rattle.std.proofs.lemmas.Bool.{and_parts, eqb-true, not-true}
use Rattle.std.proofs.lemmas.List.{drop_more, length-map, nil_from_length}
use Rattle.tree_change.proofs.OneChange.{was_plain}
use Rattle.live_index.proofs.PlaceLaws.{same_name}
use Rattle.verdict.specs.OnDisk.{key_same}
use Rattle.verdict.specs.Rules.{and_then}
use Rattle.verdict.specs.declared.finding.Finding.{Finding}
use Rattle.verdict.specs.declared.key.Key.{Key}
use Rattle.verdict.specs.declared.place.Chunk.{Chunk}
use Rattle.write_cache.specs.Cache.{overlaid}
use Rattle.write_cache.proofs.CacheLaws.{overlaid-empty}
use Rattle.super_reader.specs.declared.Super.{Super}
use Rattle.live_index.specs.Pairs.{Pairs}
use Rattle.live_index.specs.Table.{pairs_of}
use Rattle.node_reader.specs.declared.expect.Expect.{Expect}
use Rattle.records.specs.Seen.{Seen}
use Rattle.records.specs.Walk.{Records}
use Rattle.volume_items.specs.declared.root_at.RootAt.{RootAt}
use Rattle.tree_laws.specs.Ending.{ends_in}
use Rattle.tree_laws.specs.Keeping.{Under, last_if_same}
use Rattle.tree_laws.specs.KeepingWalk.{skip_in}
use Rattle.tree_laws.specs.Known.{blocks_met}
use Rattle.tree_laws.specs.MergedLaw.{items}
use Rattle.tree_laws.specs.OldSide.{kept_at}
use Rattle.tree_laws.specs.Skips.{Anew}
use Rattle.tree_laws.specs.Stopping.{kept_among}
use Rattle.tree_laws.specs.Stops.{is_stop}
use Rattle.tree_laws.specs.Visits.{LooksFew, visits_in}
use Rattle.tree_laws.specs.declared.told.Met.{Met}
use Rattle.tree_change.specs.AllTrees.{root_named}
use Rattle.tree_change.specs.Firsts.{first_copies}
use Rattle.tree_change.specs.Gathered.{Gathers, blocks_seen}
use Rattle.tree_change.specs.Looks.{LooksAtMost, gone_all_looks, gone_all_looks_in, gone_looks, gone_looks_in, is_expected, looks_in, met_by, named_looks, named_looks_in, new_visits, old_visits, old_visits_or, read_count, same_bound, stays_by, tree_looks}
use Rattle.tree_change.specs.Making.{is_side, was_side}
use Rattle.tree_change.specs.Stays.{Stays}
use Rattle.tree_change.specs.Told.{known_by, side_with}
use Rattle.tree_change.specs.Walks.{Known, NewWalk, Side, kept_by, lasts_by, listed_by, new_walk, old_or_none, old_walk}
use Rattle.tree_change.specs.declared.sides.Sides.{Sides}
use Rattle.records.specs.Contents.{names, named_root}

-- where just the addresses of stops pass a test, a walk comes to as many blocks that keeps the blocks at these addresses as one that keeps
-- those at the stops
visits_same : (pairs : Pairs) (test : ℕ → Bool) (stops : List Expect) (under : Under) (anew : Anew) (sup : Super) (chunks : List Chunk) (e : Expect)
    (image : List ℕ) → ((address : ℕ) → test address ≡ is_stop stops address)
    → visits_in (kept_among pairs test under) anew sup chunks e image ≡ visits_in (kept_at pairs stops under) anew sup chunks e image
unfolding kept_among kept_at
visits_same pairs test stops under anew sup chunks e image same =
    ap (λ kept. visits_in kept anew sup chunks e image)
    (λ i v. if same v.address i then last_if_same v (under v.tree v.address) (pairs v.tree v.address) else None)

-- so many looks at most are those of the walk that stops there
pub old_few : (told : Option (List ℕ)) (pending : FinMap nat_cmp ℕ) (known : Known) (test : ℕ → Bool) (stops : List Expect) (sup : Super)
    (chunks some : List Chunk) (e : Expect) (before after : ℕ) → some ≡ first_copies chunks → ((address : ℕ) → test address ≡ is_stop stops address)
    → LooksFew told pending before after (λ image. visits_in (kept_among known.pairs test known.under) (listed_by known) sup some e image)
    → LooksFew told pending before after (λ image. old_visits known stops (record { sup = sup; chunks = chunks; image = image }) e)
old_few None pending known test stops sup chunks some e before after once same few = tt
old_few (Some image) pending known test stops sup chunks some e before after once same few =
    subst (λ n. after ≤ before + 3 * n)
    (visits_same known.pairs test stops known.under (listed_by known) sup some e (overlaid pending 0 image) same
    ∙ ap (λ cs. visits_in (kept_at known.pairs stops known.under) (listed_by known) sup cs e (overlaid pending 0 image)) once) few

-- no look, where no block is come to
pub few_none : (told : Option (List ℕ)) (pending : FinMap nat_cmp ℕ) (looks : ℕ) → LooksFew told pending looks looks (λ image. 0)
few_none None pending looks = tt
few_none (Some image) pending looks = omega arith

-- the kept blocks that a walk met, and how many they are
met_is : (known : Known) (is : Side) (e : Expect) (new : NewWalk) → new_walk known is e ≡ Ok new → new.met ≡ met_by known is e
unfolding new_walk
met_is known is e new walks = by (skip_in (kept_by known) (listed_by known) is.sup is.chunks e is.image) walks
  where
    made : List Seen → NewWalk
    made records = record {
      read = record { blocks = blocks_seen records; items = items records };
      met = met_by known is e;
      ended = (ends_in (kept_by known) (listed_by known) (lasts_by known) is.sup is.chunks e is.image).blocks;
    }

    fine : NewWalk → Result NewWalk Finding
    fine walk = Ok walk

    same : (walk : NewWalk) → fine walk ≡ fine new → walk ≡ new
    same walk alike = cc

    by : (records : Records) → and_then records (λ rs. fine (made rs)) ≡ Ok new → new.met ≡ met_by known is e
    by (Err finding) ends = absurd (cc)
    by (Ok rs) ends = ap (λ (walk : NewWalk). walk.met) (sym (same (made rs) ends))

pub met_length : (met : List Met) → length met ≡ length (blocks_met met)
met_length met = sym (length-map met (λ (one : Met). one.expect))

-- the looks of the steps in one sum
looks_sum : (first one two three last new old as_old read as_read met as_met : ℕ) → one ≤ first + 3 * new → two ≤ one + 3 * old
    → three ≤ two + read → last ≤ three + met → old ≡ as_old → read ≡ as_read → met ≡ as_met
    → last ≤ first + (3 * new + 3 * as_old + as_read + as_met)
looks_sum first one two three last new old as_old read as_read met as_met a b c d e f g = omega (arith, a, b, c, d, e, f, g)

gone_sum : (first one last old as_old read as_read : ℕ) → one ≤ first + 3 * old → last ≤ one + read → old ≡ as_old → read ≡ as_read
    → last ≤ first + (3 * as_old + as_read)
gone_sum first one last old as_old read as_read a b c d = omega (arith, a, b, c, d)

-- the looks for a tree, by those of its two walks and of what is made of them
pub tree_few : {L : Type 0} (sides : Sides L) (told : Option (List ℕ)) (before : Option Expect) (now : Expect) (new : NewWalk) (old : Gathers)
    (first one two three last : ℕ) → sides.was.cache.now ≡ empty
    → IfSome told (λ image. new_walk (known_by sides.known) (is_side sides image) now ≡ Ok new)
    → IfSome told (λ image. old_or_none (known_by sides.known) new.met (side_with sides.was (overlaid sides.was.cache.now 0 image)) before ≡ Ok old)
    → LooksFew told sides.is.cache.now first one (λ image. new_visits (known_by sides.known) (side_with sides.is image) now)
    → LooksFew told sides.was.cache.now one two (λ image. old_visits_or (known_by sides.known) new.met (side_with sides.was image) before)
    → three ≤ two + length old.blocks → last ≤ three + length new.met
    → LooksAtMost told first last (looks_in sides before now)
unfolding tree_looks
tree_few sides None before now new old first one two three last none new_is old_is few_new few_old few_known few_met = tt
tree_few sides (Some image) before now new old first one two three last none new_is old_is few_new few_old few_known few_met =
    let known = known_by sides.known in
    let met = met_is known (is_side sides image) now new new_is in
    let bare = was_plain sides image none in
    looks_sum first one two three last (new_visits known (is_side sides image) now)
    (old_visits_or known new.met (side_with sides.was (overlaid sides.was.cache.now 0 image)) before)
    (old_visits_or known (met_by known (is_side sides image) now) (was_side sides image) before)
    (length old.blocks) (read_count (old_or_none known (met_by known (is_side sides image) now) (was_side sides image) before))
    (length new.met) (length (met_by known (is_side sides image) now)) few_new few_old few_known few_met
    (ap (λ side. old_visits_or known new.met side before) bare ∙ ap (λ m. old_visits_or known m (was_side sides image) before) met)
    (sym (ap (λ m. read_count (old_or_none known m (was_side sides image) before)) (sym met)
    ∙ ap (λ side. read_count (old_or_none known new.met side before)) (sym bare) ∙ ap read_count old_is))
    (ap length met)

-- the same for a tree that is gone
pub gone_few : {L : Type 0} (sides : Sides L) (told : Option (List ℕ)) (before : Expect) (old : Gathers) (first one last : ℕ)
    → sides.was.cache.now ≡ empty
    → IfSome told (λ image. old_walk (known_by sides.known) [] (side_with sides.was (overlaid sides.was.cache.now 0 image)) before ≡ Ok old)
    → LooksFew told sides.was.cache.now first one (λ image. old_visits (known_by sides.known) [] (side_with sides.was image) before)
    → last ≤ one + length old.blocks → LooksAtMost told first last (gone_looks_in sides before)
unfolding gone_looks
gone_few sides None before old first one last none old_is few_old few_known = tt
gone_few sides (Some image) before old first one last none old_is few_old few_known =
    let known = known_by sides.known in
    let bare = was_plain sides image none in
    gone_sum first one last (old_visits known [] (side_with sides.was (overlaid sides.was.cache.now 0 image)) before)
    (old_visits known [] (was_side sides image) before) (length old.blocks) (read_count (old_walk known [] (was_side sides image) before))
    few_old few_known (ap (λ side. old_visits known [] side before) bare)
    (sym (ap (λ side. read_count (old_walk known [] side before)) (sym bare) ∙ ap read_count old_is))

-- the looks so far, and those for what is left, are at most those for the whole
abbrev pub LooksSoFar : Option (List ℕ) → ℕ → ℕ → (List ℕ → ℕ) → (List ℕ → ℕ) → Type 0
LooksSoFar told before now rest whole = IfSome told (λ image. now + rest image ≤ before + whole image)

pub looks_first : (told : Option (List ℕ)) (before : ℕ) (whole : List ℕ → ℕ) → LooksSoFar told before before whole whole
looks_first None before whole = tt
looks_first (Some image) before whole = omega arith

more_sum : (before now after here rest left whole : ℕ) → now + rest ≤ before + whole → rest ≡ here + left → after ≤ now + here
    → after + left ≤ before + whole
more_sum before now after here rest left whole a b c = omega (arith, a, b, c)

pub looks_more : (told : Option (List ℕ)) (before now after : ℕ) (here rest left whole : List ℕ → ℕ) → LooksSoFar told before now rest whole
    → ((image : List ℕ) → rest image ≡ here image + left image) → LooksAtMost told now after here → LooksSoFar told before after left whole
looks_more None before now after here rest left whole so step more = tt
looks_more (Some image) before now after here rest left whole so step more =
    more_sum before now after (here image) (rest image) (left image) (whole image) so (step image) more

past_sum : (before now rest left whole : ℕ) → now + rest ≤ before + whole → left ≤ rest → now + left ≤ before + whole
past_sum before now rest left whole a b = omega (arith, a, b)

looks_less : (told : Option (List ℕ)) (before now : ℕ) (rest left whole : List ℕ → ℕ) → LooksSoFar told before now rest whole
    → ((image : List ℕ) → left image ≤ rest image) → LooksSoFar told before now left whole
looks_less None before now rest left whole so less = tt
looks_less (Some image) before now rest left whole so less = past_sum before now (rest image) (left image) (whole image) so (less image)

pub looks_past : (told : Option (List ℕ)) (before now : ℕ) (rest left whole : List ℕ → ℕ) → LooksSoFar told before now rest whole
    → ((image : List ℕ) → rest image ≡ left image) → LooksSoFar told before now left whole
looks_past None before now rest left whole so same = tt
looks_past (Some image) before now rest left whole so same = subst (λ n. now + n ≤ before + whole image) (same image) so

pub looks_done : (told : Option (List ℕ)) (before now : ℕ) (rest whole : List ℕ → ℕ) → LooksSoFar told before now rest whole
    → LooksAtMost told before now whole
looks_done None before now rest whole so = tt
looks_done (Some image) before now rest whole so = omega (arith, so)

bound_of_same : (a b : Option Key) → same_bound a b ≡ true → a ≡ b
bound_of_same None None is = refl
bound_of_same None (Some b) is = absurd (cc)
bound_of_same (Some a) None is = absurd (cc)
bound_of_same (Some a) (Some b) is = ap (λ (key : Key). Some key) (same_name a b is)

pub expect_of_same : (e now : Expect) → is_expected (Some e) now ≡ true → e ≡ now
expect_of_same e now is =
    let both = and_parts _ _ is in
    let first = and_parts _ _ both.0 in
    let second = and_parts _ _ first.1 in
    let third = and_parts _ _ second.1 in
    let fourth = and_parts _ _ third.1 in
    let bounds = and_parts _ _ both.1 in
    let tree : e.tree ≡ now.tree = eqb-true _ _ first.0 in
    let address : e.address ≡ now.address = eqb-true _ _ second.0 in
    let generation : e.generation ≡ now.generation = eqb-true _ _ third.0 in
    let level : e.level ≡ now.level = eqb-true _ _ fourth.0 in
    let parent : e.parent ≡ now.parent = eqb-true _ _ fourth.1 in
    let low : e.low ≡ now.low = bound_of_same _ _ bounds.0 in
    let high : e.high ≡ now.high = bound_of_same _ _ bounds.1 in
    λ i. record {
      tree = tree i;
      address = address i;
      generation = generation i;
      level = level i;
      low = low i;
      high = high i;
      parent = parent i;
    }

before_of_same : (before : Option Expect) (now : Expect) → is_expected before now ≡ true → before ≡ Some now
before_of_same None now is = absurd (cc)
before_of_same (Some e) now is = ap (λ (one : Expect). Some one) (expect_of_same e now is)

-- a tree stays that passes the test
stays_all : {L : Type 0} (sides : Sides L) (before : Option Expect) (now : Expect) → stays_by sides.is_same (known_by sides.known) before now ≡ true
    → (sides.is_same ≡ true) × Stays (pairs_of sides.table.now) (known_by sides.known) before now
unfolding stays_by
stays_all sides before now is =
    let first = and_parts _ _ is in
    let second = and_parts _ _ first.1 in
    let third = and_parts _ _ second.1 in
    let fourth = and_parts _ _ third.1 in (
      first.0,
      record {
        by_old = ap pairs_of (sides.same first.0);
        same = before_of_same before now second.0;
        unmarked = not-true _ third.0;
        unmoved = not-true _ fourth.0;
        unlisted = nil_from_length _ (eqb-true _ _ fourth.1);
      },
    )

-- a place of the list of trees that are named now, where the tree is walked
named_walked : {L : Type 0} (sides : Sides L) (olds news : List RootAt) (i : ℕ) (d : RootAt) (before : Option Expect) (now : Expect)
    → i < length news → before ≡ root_named olds (get_or news i d).key.objectid → now ≡ named_root (get_or news i d)
    → stays_by sides.is_same (known_by sides.known) before now ≡ false → (image : List ℕ)
    → named_looks_in sides olds (drop i news) image ≡ looks_in sides before now image + named_looks_in sides olds (drop (i + 1) news) image
unfolding named_looks
named_walked sides olds news i d before now inside is_before is_now walked image =
    let known = known_by sides.known in
    let root = get_or news i d in
    let left = named_looks_in sides olds (drop (i + 1) news) image in
    ap (λ roots. named_looks_in sides olds roots image) (drop_more news i d inside)
    ∙ ap (λ b. if b then left else looks_in sides (root_named olds root.key.objectid) (named_root root) image + left)
    (ap (λ e. stays_by sides.is_same known e (named_root root)) (sym is_before) ∙ ap (stays_by sides.is_same known before) (sym is_now) ∙ walked)
    ∙ ap (λ e. looks_in sides e (named_root root) image + left) (sym is_before)
    ∙ ap (λ e. looks_in sides before e image + left) (sym is_now)

-- and one where it may be walked or not
named_left : {L : Type 0} (sides : Sides L) (olds news : List RootAt) (i : ℕ) (d : RootAt) → i < length news → (image : List ℕ)
    → named_looks_in sides olds (drop (i + 1) news) image ≤ named_looks_in sides olds (drop i news) image
unfolding named_looks
named_left sides olds news i d inside image =
    subst (λ n. named_looks_in sides olds (drop (i + 1) news) image ≤ n)
    (sym (ap (λ roots. named_looks_in sides olds roots image) (drop_more news i d inside)))
    (by (stays_by sides.is_same (known_by sides.known) (root_named olds (get_or news i d).key.objectid) (named_root (get_or news i d)))
    (looks_in sides (root_named olds (get_or news i d).key.objectid) (named_root (get_or news i d)) image)
    (named_looks_in sides olds (drop (i + 1) news) image))
  where
    by : (b : Bool) (here left : ℕ) → left ≤ (if b then left else here + left)
    by true here left = omega arith
    by false here left = omega arith

pub looks_walked : {L : Type 0} (sides : Sides L) (olds news : List RootAt) (i : ℕ) (d : RootAt) (before : Option Expect) (now : Expect)
    (result : Bool) (told : Option (List ℕ)) (first at next : ℕ) → i < length news
    → before ≡ root_named olds (get_or news i d).key.objectid → now ≡ named_root (get_or news i d)
    → (sides.is_same ≡ true → Stays (pairs_of sides.table.now) (known_by sides.known) before now → result ≡ true) → result ≡ false
    → LooksSoFar told first at (named_looks_in sides olds (drop i news)) (named_looks_in sides olds news)
    → LooksAtMost told at next (looks_in sides before now)
    → LooksSoFar told first next (named_looks_in sides olds (drop (i + 1) news)) (named_looks_in sides olds news)
looks_walked sides olds news i d before now result told first at next inside is_before is_now complete none so more =
    looks_more told first at next (looks_in sides before now) (named_looks_in sides olds (drop i news))
    (named_looks_in sides olds (drop (i + 1) news)) (named_looks_in sides olds news) so
    (named_walked sides olds news i d before now inside is_before is_now
    (by (stays_by sides.is_same (known_by sides.known) before now) (stays_all sides before now))) more
  where
    by : (b : Bool) → (b ≡ true → (sides.is_same ≡ true) × Stays (pairs_of sides.table.now) (known_by sides.known) before now) → b ≡ false
    by true all = let stays = all refl in sym (complete stays.0 stays.1) ∙ none
    by false all = refl

pub looks_passed : {L : Type 0} (sides : Sides L) (olds news : List RootAt) (i : ℕ) (d : RootAt) (now : Expect) (told : Option (List ℕ))
    (first at : ℕ) → i < length news → now ≡ named_root (get_or news i d) → LooksSoFar told first at (named_looks_in sides olds (drop i news)) (named_looks_in sides olds news)
    → LooksSoFar told first at (named_looks_in sides olds (drop (i + 1) news)) (named_looks_in sides olds news)
looks_passed sides olds news i d now told first at inside is_now so =
    looks_less told first at (named_looks_in sides olds (drop i news)) (named_looks_in sides olds (drop (i + 1) news))
    (named_looks_in sides olds news) so (named_left sides olds news i d inside)

-- a place of the list of trees that were, where one is gone and where it is not
pub gone_looks_step : {L : Type 0} (sides : Sides L) (news olds : List RootAt) (i : ℕ) (d : RootAt) (before : Expect) → i < length olds
    → list_any (names (get_or olds i d).key.objectid) news ≡ false → before ≡ named_root (get_or olds i d) → (image : List ℕ)
    → gone_all_looks_in sides news (drop i olds) image ≡ gone_looks_in sides before image + gone_all_looks_in sides news (drop (i + 1) olds) image
unfolding gone_all_looks
gone_looks_step sides news olds i d before inside none is image =
    ap (λ roots. gone_all_looks_in sides news roots image) (drop_more olds i d inside)
    ∙ ap (λ b. if b then gone_all_looks_in sides news (drop (i + 1) olds) image
    else gone_looks_in sides (named_root (get_or olds i d)) image + gone_all_looks_in sides news (drop (i + 1) olds) image) none
    ∙ ap (λ e. gone_looks_in sides e image + gone_all_looks_in sides news (drop (i + 1) olds) image) (sym is)

pub gone_looks_past : {L : Type 0} (sides : Sides L) (news olds : List RootAt) (i : ℕ) (d : RootAt) → i < length olds
    → list_any (names (get_or olds i d).key.objectid) news ≡ true → (image : List ℕ)
    → gone_all_looks_in sides news (drop i olds) image ≡ gone_all_looks_in sides news (drop (i + 1) olds) image
unfolding gone_all_looks
gone_looks_past sides news olds i d inside some image =
    ap (λ roots. gone_all_looks_in sides news roots image) (drop_more olds i d inside)
    ∙ ap (λ b. if b then gone_all_looks_in sides news (drop (i + 1) olds) image
    else gone_looks_in sides (named_root (get_or olds i d)) image + gone_all_looks_in sides news (drop (i + 1) olds) image) some
