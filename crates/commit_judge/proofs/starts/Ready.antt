-- An index stands for an image that the full check accepts.
use Rattle.std.proofs.Common.{◌≡◌, ℕ, ◌+◌, ◌*◌, ◌≤◌, false, List, [], ◌∷◌, ◌++◌, length, Option, Some, None, Result, Ok, Err, IfSome, IfOk, refl, ap, sym, ◌∙◌, subst, arith}
use Rattle.std.specs.BTreeMap.{is_at}
use Rattle.std.specs.BTreeSet as set
use Rattle.std.specs.Ordering.{nat_cmp}
use Rattle.std.specs.FinMap.{FinMap, empty}
use Rattle.std.specs.List.{list_any}
use Rattle.std.proofs.lemmas.List.Sums.{sum_by-append}
use Rattle.verdict.specs.Rules.{and_then, finding_or}
use Rattle.verdict.specs.declared.finding.Finding.{Finding}
use Rattle.verdict.specs.declared.finding.Verdict.TheVariants.{Accept, Found as Refusal}
use Rattle.verdict.specs.declared.place.Chunk.{Chunk}
use Rattle.account_tally.specs.Sums.{Frees, none_free}
use Rattle.accounts.specs.Sums.{total_of}
use Rattle.accounts.specs.Tally.{Sums, no_sums}
use Rattle.accounts.specs.declared.account.Account.{Account}
use Rattle.accounts.specs.declared.postings.Posting.{Posting}
use Rattle.commit_laws.specs.Commit.{context_by}
use Rattle.commit_laws.specs.Same.{records_of}
use Rattle.commit_laws.specs.Sectors.{AreSound}
use Rattle.commit_laws.specs.Steps.{all_posts, posts_of, spans_of}
use Rattle.block_source.specs.Gives.{Gives}
use Rattle.block_source.specs.declared.halt.Halt.{Halt}
use Rattle.block_source.specs.declared.halt.Halt.TheVariants.{Found, Disk, NoMemory}
use Rattle.commit_laws.proofs.at_sectors.Judged.{judged}
use Rattle.commit_laws.proofs.accepted.Items.{items_stand}
use Rattle.commit_laws.proofs.whole_commits.Named.{sound_of}
use Rattle.commit_laws.proofs.sound_spans.Ascend.{ascend}
use Rattle.change_records.specs.Affected.{context_with}
use Rattle.change_records.specs.declared.kept.Inode.{Inode}
use Rattle.chunk_map.specs.Roots.{KeysAscend}
use Rattle.ledger_index.specs.Ledger.{sums_of}
use Rattle.ledger_index.specs.declared.ledger.LedgerIndex.{LedgerIndex}
use Rattle.ledger_index.proofs.LedgerLaws.{is_tidy}
use Rattle.live_index.specs.Pairs.{Pairs}
use Rattle.live_index.specs.Table.{pairs_of}
use Rattle.live_index.specs.declared.kept.LiveIndex.{LiveIndex}
use Rattle.plain_check.specs.Accounts.{accounts_in, accounts_of}
use Rattle.plain_check.specs.Opened.{Opened, block_count, named_records, opened}
use Rattle.plain_check.specs.OpeningLaw.{contents_of, contents_with}
use Rattle.plain_check.proofs.Chain.{checked_by}
use Rattle.plain_check.proofs.Opening.{opens}
use Rattle.records.specs.Contents.{Contents, contents}
use Rattle.records.specs.Context.{context_of, has_sum_free}
use Rattle.records.specs.FullCheck.{checked, full_check, verdict_of}
use Rattle.records.specs.Part.{Located}
use Rattle.records.specs.Postings.{account_fault}
use Rattle.records.specs.Seen.{Seen}
use Rattle.records.specs.Seen.Seen.{BlockSeen, PointerSeen, ItemSeen}
use Rattle.records.specs.Walk.{Records}
use Rattle.tree_laws.specs.LivePairs.{live_in, walked}
use Rattle.recon_disk.specs.Keeping.{Kept}
use Rattle.recon_disk.specs.declared.disk.Disk.{Ghosts}
use Rattle.span_index.specs.Sectors.{times_of_span}
use Rattle.span_index.specs.Table.{times_of}
use Rattle.span_index.specs.declared.kept.SpanIndex.{SpanIndex}
use Rattle.span_index.specs.declared.span.Span.{Span}
use Rattle.super_reader.specs.declared.Super.{Super}
use Rattle.touched_accounts.specs.Sums.{with_all}
use Rattle.tree_change.specs.Change.{BasesStand}
use Rattle.write_cache.specs.Cache.{overlaid}
use Rattle.write_cache.proofs.CacheLaws.{overlaid-empty}
use Rattle.commit_judge.specs.Filling.{AreTablesOf, AreTablesWith, IsFoundBy, IsRefusal, named_walk}
use Rattle.commit_judge.specs.Flags.{free_in, full_in}
use Rattle.commit_judge.specs.Index.{IndexStands, known}
use Rattle.commit_judge.specs.Start.{IsReady}
use Rattle.commit_judge.specs.declared.filling.Tables.{Tables}
use Rattle.commit_judge.specs.declared.index.Index.{Index}
use Rattle.commit_judge.proofs.starts.Filling.{posts_alike}
use Rattle.commit_judge.proofs.starts.Found.{found_by}
use Rattle.commit_judge.proofs.starts.Opened.{opened_is, walked_with, walks_are}
use Rattle.commit_judge.proofs.starts.Tables.{halted_told}

-- ---- how many blocks

count_block : (block : Seen) (more : List Seen) → block_count (block ∷ more) ≡ block_count (block ∷ []) + block_count more
count_block block more = sum_by-append _ (block ∷ []) more

pub blocks_are : (seen : List Seen) → block_count seen ≡ length (live_in seen)
unfolding live_in
blocks_are [] = refl
blocks_are (BlockSeen block ∷ more) = let here = count_block (BlockSeen block) more in omega (arith, here, blocks_are more)
blocks_are (PointerSeen pointer ∷ more) = let here = count_block (PointerSeen pointer) more in omega (arith, here, blocks_are more)
blocks_are (ItemSeen one ∷ more) = let here = count_block (ItemSeen one) more in omega (arith, here, blocks_are more)

few_reads : (o : Opened) (more : List Seen) (before between after : ℕ)
    → between ≤ before + 1 + 2 * block_count o.seen → after ≤ between + 2 * block_count more
    → after ≤ before + 1 + 2 * length (live_in (o.seen ++ more))
few_reads o more before between after first second =
    let whole : block_count (o.seen ++ more) ≡ block_count o.seen + block_count more = sum_by-append _ o.seen more in
    let blocks = blocks_are (o.seen ++ more) in
    omega (arith, whole, blocks, first, second)

-- ---- the full check

-- a finding before the accounts
pub not_opened : (image : List ℕ) (finding : Finding) → opened image ≡ Err finding → full_check image ≡ Refusal finding
not_opened image finding is =
    ap verdict_of (checked_by image
    ∙ ap (λ (r : Result Opened Finding). and_then {A = Opened} {B = ℕ} r (λ o. and_then {A = Unit {0}} {B = ℕ} (accounts_in o image) (λ _. Ok o.sup.generation))) is)

after_accounts : (image : List ℕ) (o : Opened) (r : Result (Unit {0}) Finding) → opened image ≡ Ok o → accounts_in o image ≡ r
    → checked image ≡ and_then {A = Unit {0}} {B = ℕ} r (λ _. Ok o.sup.generation)
after_accounts image o r is accounts =
    checked_by image
    ∙ ap (λ (r : Result Opened Finding). and_then {A = Opened} {B = ℕ} r (λ o. and_then {A = Unit {0}} {B = ℕ} (accounts_in o image) (λ _. Ok o.sup.generation))) is
    ∙ ap (λ (r : Result (Unit {0}) Finding). and_then {A = Unit {0}} {B = ℕ} r (λ _. Ok o.sup.generation)) accounts

-- the finding of the accounts
pub not_passed : (image : List ℕ) (o : Opened) (finding : Finding) → opened image ≡ Ok o → accounts_in o image ≡ Err finding → full_check image ≡ Refusal finding
not_passed image o finding is accounts = ap verdict_of (after_accounts image o (Err finding) is accounts)

-- what the image holds
held_is : (image : List ℕ) (o : Opened) (more : List Seen) → opened image ≡ Ok o → named_records o image ≡ Ok more
    → contents image ≡ Ok (contents_with o more)
held_is image o more is named =
    opens image
    ∙ ap (λ (r : Result Opened Finding). and_then {A = Opened} {B = Contents} r (λ o. contents_of o image)) is
    ∙ ap (λ (r : Records). and_then {A = List Seen} {B = Contents} r (λ more. Ok (contents_with o more))) named

-- the step of the accounts, by the records of the trees that root items name
abbrev accounts_by : Opened → Records → Result (Unit {0}) Finding
accounts_by o records =
    and_then {A = Contents} {B = Unit {0}} (and_then {A = List Seen} {B = Contents} records (λ more. Ok (contents_with o more))) accounts_of

-- a finding of these trees is its finding
unread_case : (o : Opened) (records : Records) (finding : Finding)
    → and_then {A = List Seen} {B = Unit {0}} records (λ more. Ok (tt {0})) ≡ Err finding → accounts_by o records ≡ Err finding
unread_case o (Err other) finding is = cc (is)
unread_case o (Ok more) finding is = absurd (cc is)

not_read : (image : List ℕ) (o : Opened) (finding : Finding) → named_walk o image ≡ Err finding → accounts_in o image ≡ Err finding
unfolding accounts_in
not_read image o finding is = unread_case o (named_records o image) finding is

-- ---- the index

nothing_more : (n : ℕ) → 0 + n ≡ n
nothing_more n = omega arith

pub all_alike : (chunks : List Chunk) (nodesize : ℕ) (free other : Frees) (records : List Located)
    → all_posts (context_with chunks nodesize free) records ≡ all_posts (context_with chunks nodesize other) records
unfolding all_posts
all_alike chunks nodesize free other [] = refl
all_alike chunks nodesize free other (one ∷ more) =
    ap (λ (ps : List Posting). ps ++ all_posts (context_with chunks nodesize free) more) (posts_alike chunks nodesize free other one)
    ∙ ap (λ (ps : List Posting). posts_of (context_with chunks nodesize other) one ++ ps) (all_alike chunks nodesize free other more)

-- the sums of no postings and of some
sums_from_none : (ps : List Posting) (account : Account) (field : ℕ) → with_all no_sums ps account field ≡ total_of ps account field
unfolding with_all
sums_from_none ps account field = nothing_more (total_of ps account field)

-- ---- the accounts

-- the records are sound
sound_with : (image : List ℕ) (o : Opened) (more : List Seen) → walked image ≡ Ok (walked_with o more)
    → AreSound o.sup.nodesize (contents_with o more).records
unfolding records_of
sound_with image o more walks = sound_of (walked_with o more) (items_stand image (walked_with o more) walks)

-- this is the finding by the tables of an image of which this is known
abbrev pub IsFoundIn : {L : Type 0} → Opened → Tables L → Option Finding → Type 0
IsFoundIn o tables finding =
    IsFoundBy (sums_of tables.totals) (times_of tables.spans) (context_with o.chunks o.sup.nodesize (free_in tables.free)) finding

fault_is : {L : Type 0} (image : List ℕ) (o : Opened) (more : List Seen) (tables : Tables L) (finding : Option Finding)
    → opened image ≡ Ok o → named_records o image ≡ Ok more → AreTablesWith o more tables → IsFoundIn o tables finding
    → account_fault (context_of (contents_with o more)) (contents_with o more).records ≡ finding
fault_is image o more tables finding is named filled by =
    let records = (contents_with o more).records in
    let free = has_sum_free records in
    found_by judged (context_with o.chunks o.sup.nodesize free) records (sums_of tables.totals) (times_of tables.spans) finding
    (sound_with image o more (walks_are image o more is named))
    (λ account field. ap (λ (sums : Sums). sums account field) filled.sums
    ∙ sums_from_none (all_posts (context_with o.chunks o.sup.nodesize none_free) records) account field
    ∙ ap (λ (ps : List Posting). total_of ps account field) (all_alike o.chunks o.sup.nodesize none_free free records))
    filled.spans
    (subst (λ (f : Frees). IsFoundBy (sums_of tables.totals) (times_of tables.spans) (context_with o.chunks o.sup.nodesize f) finding) filled.free by)

-- the step of the accounts has the finding by the tables
accounts_are : {L : Type 0} (image : List ℕ) (o : Opened) (tables : Tables L) (finding : Option Finding)
    → opened image ≡ Ok o → AreTablesOf o image tables → IsFoundIn o tables finding → accounts_in o image ≡ finding_or finding (tt {0})
unfolding accounts_in
accounts_are image o tables finding is filled by =
    ap (accounts_by o) filled.1
    ∙ ap (λ (f : Option Finding). finding_or f (tt {0})) (fault_is image o filled.0 tables finding is filled.1 filled.2 by)

-- This is an index of what is known of an image, with these tables.
pub record IsMade {L : Type 0} (o : Opened) (tables : Tables L) (index : Index L) : Type 0 where
  pub raw_is : index.raw ≡ o.raw
  pub sup_is : index.sup ≡ o.sup
  pub map_is : index.map ≡ o.chunks
  pub roots_are : KeysAscend o.roots → index.roots.items ≡ o.roots
  pub free_is : index.sum_free ≡ tables.free
  pub full_is : index.full.keys ≡ []
  pub live_is : index.live ≡ tables.live
  pub totals_are : index.totals ≡ tables.totals
  pub spans_are : index.spans ≡ tables.spans

module _ {L : Type 0} (image : List ℕ) (o : Opened) (tables : Tables L) (index : Index L)
    (is : opened image ≡ Ok o) (accounts : accounts_in o image ≡ Ok (tt {0})) (filled : AreTablesOf o image tables) (made : IsMade o tables index) where
  abbrev records : List Located
  records = (contents_with o filled.0).records

  walks : walked image ≡ Ok (walked_with o filled.0)
  walks = walks_are image o filled.0 is filled.1

  accepted : full_check image ≡ Accept index.sup.generation
  accepted = ap verdict_of (after_accounts image o (Ok (tt {0})) is accounts) ∙ ap (λ (sup : Super). Accept sup.generation) (sym made.sup_is)

  bases : BasesStand image index.sup index.map index.roots.items (free_in index.sum_free) (full_in index.full) (pairs_of index.live)
  bases = record {
    generation = index.sup.generation;
    accepted = accepted;
    held = contents_with o filled.0;
    holds = held_is image o filled.0 is filled.1;
    super_is = made.sup_is;
    chunks_are = made.map_is;
    roots_are = made.roots_are (ascend image (walked_with o filled.0) o.roots walks (opened_is image o is).roots);
    free_are = λ tree ino. ap (λ (free : set.BTreeSet Inode). free_in free tree ino) made.free_is ∙ ap (λ (free : Frees). free tree ino) filled.2.free;
    full_are = λ address. ap (list_any (is_at (nat_cmp address))) made.full_is;
    trees = walked_with o filled.0;
    walks = walks;
    pairs_are = λ tree address. ap (λ (live : LiveIndex L). pairs_of live tree address) made.live_is ∙ ap (λ (pairs : Pairs). pairs tree address) filled.2.live;
  }

  sums_are : (account : Account) (field : ℕ) → sums_of index.totals account field ≡ total_of (all_posts (context_by (known index)) records) account field
  sums_are account field =
      let free = free_in index.sum_free in
      let posts : all_posts (context_with o.chunks o.sup.nodesize none_free) records ≡ all_posts (context_with index.map index.sup.nodesize free) records =
      all_alike o.chunks o.sup.nodesize none_free free records
      ∙ ap (λ (chunks : List Chunk). all_posts (context_with chunks o.sup.nodesize free) records) (sym made.map_is)
      ∙ ap (λ (sup : Super). all_posts (context_with index.map sup.nodesize free) records) (sym made.sup_is) in
      ap (λ (totals : LedgerIndex L). sums_of totals account field) made.totals_are
      ∙ ap (λ (sums : Sums). sums account field) filled.2.sums
      ∙ sums_from_none (all_posts (context_with o.chunks o.sup.nodesize none_free) records) account field
      ∙ ap (λ (ps : List Posting). total_of ps account field) posts

  spans_are : (span : Span) → times_of index.spans span ≡ times_of_span (spans_of index.sup.nodesize records) span
  spans_are span =
      ap (λ (spans : SpanIndex L). times_of spans span) made.spans_are
      ∙ filled.2.spans span
      ∙ ap (λ (sup : Super). times_of_span (spans_of sup.nodesize records) span) (sym made.sup_is)

  stands : IndexStands image index
  unfolding bases
  stands = record {
    known = record { bases = bases; sums = sums_are; spans = spans_are };
    raw = made.raw_is ∙ (opened_is image o is).raw;
    entries = is_tidy index.totals;
  }

  pub ready : (before between after : ℕ) → between ≤ before + 1 + 2 * block_count o.seen
      → IfOk (named_records o image) (λ found. after ≤ between + 2 * block_count found)
      → IsReady image before after index
  ready before between after first second = record {
    accepted = accepted;
    stands = stands;
    trees = walked_with o filled.0;
    walks = walks;
    reads = few_reads o filled.0 before between after first (subst (λ (r : Records). IfOk r (λ found. after ≤ between + 2 * block_count found)) filled.1 second);
  }

-- ---- where the disk tells its bytes

-- nothing waits over the bytes
pub plain : (m : FinMap nat_cmp ℕ) (image : List ℕ) → m ≡ empty → overlaid m 0 image ≡ image
plain m image none = ap (λ (k : FinMap nat_cmp ℕ). overlaid k 0 image) none ∙ overlaid-empty 0 image

told_ready : {L : Type 0} (told : Option (List ℕ)) (m : FinMap nat_cmp ℕ) (o : Opened) (tables : Tables L) (index : Index L)
    (before between after : ℕ) → m ≡ empty
    → IfSome told (λ image. opened (overlaid m 0 image) ≡ Ok o)
    → IfSome told (λ image. AreTablesOf o (overlaid m 0 image) tables)
    → IsFoundIn o tables None
    → IsMade o tables index
    → IfSome told (λ _. between ≤ before + 1 + 2 * block_count o.seen)
    → IfSome told (λ image. IfOk (named_records o (overlaid m 0 image)) (λ found. after ≤ between + 2 * block_count found))
    → IfSome told (λ image. IsReady image before after index)
told_ready None m o tables index before between after none is filled by made first second = tt
told_ready (Some image) m o tables index before between after none is filled by made first second =
    subst (λ (x : List ℕ). IsReady x before after index) (plain m image none)
    (ready (overlaid m 0 image) o tables index is (accounts_are (overlaid m 0 image) o tables None is filled by) filled made before between after first second)

-- the same where the disk tells the same bytes once the image is open
pub ready_told : {L : Type 0} (told now : Option (List ℕ)) (m : FinMap nat_cmp ℕ) (o : Opened) (tables : Tables L) (index : Index L)
    (before between after : ℕ) → now ≡ told → m ≡ empty
    → IfSome told (λ image. opened (overlaid m 0 image) ≡ Ok o)
    → IfSome now (λ image. AreTablesOf o (overlaid m 0 image) tables)
    → IsFoundIn o tables None
    → IsMade o tables index
    → IfSome told (λ _. between ≤ before + 1 + 2 * block_count o.seen)
    → IfSome now (λ image. IfOk (named_records o (overlaid m 0 image)) (λ found. after ≤ between + 2 * block_count found))
    → IfSome told (λ image. IsReady image before after index)
ready_told told now m o tables index before between after same none is filled by made first second =
    told_ready told m o tables index before between after none is (rw same at filled) by made first (rw same at second)

-- what two steps without a fault keep of a disk
pub kept_both : {D : Type 0} (disk : Ghosts D) (old between new : D)
    → Kept disk old between false → Kept disk between new false → Kept disk old new false
kept_both disk old between new first second = record {
  len = second.len ∙ first.len;
  bytes = second.bytes ∙ first.bytes;
  sent = second.sent ∙ first.sent;
  moments = second.moments ∙ first.moments;
  queue = second.queue ∙ first.queue;
  faults = second.faults ∙ first.faults;
}

refused_told : (told : Option (List ℕ)) (m : FinMap nat_cmp ℕ) (finding : Finding) → m ≡ empty
    → IfSome told (λ image. full_check (overlaid m 0 image) ≡ Refusal finding) → IfSome told (λ image. full_check image ≡ Refusal finding)
refused_told None m finding none is = tt
refused_told (Some image) m finding none is = ap full_check (sym (plain m image none)) ∙ is

unopened_told : (told : Option (List ℕ)) (m : FinMap nat_cmp ℕ) (finding : Finding)
    → IfSome told (λ image. opened (overlaid m 0 image) ≡ Err finding) → IfSome told (λ image. full_check (overlaid m 0 image) ≡ Refusal finding)
unopened_told None m finding is = tt
unopened_told (Some image) m finding is = not_opened (overlaid m 0 image) finding is

-- a finding of the trees that root items name, where the disk tells its bytes
unread_told : (told : Option (List ℕ)) (m : FinMap nat_cmp ℕ) (o : Opened) (finding : Finding)
    → IfSome told (λ image. opened (overlaid m 0 image) ≡ Ok o)
    → IfSome told (λ image. named_walk o (overlaid m 0 image) ≡ Err finding)
    → IfSome told (λ image. full_check (overlaid m 0 image) ≡ Refusal finding)
unread_told None m o finding is stops = tt
unread_told (Some image) m o finding is stops =
    not_passed (overlaid m 0 image) o finding is (not_read (overlaid m 0 image) o finding stops)

-- a finding by the tables
unpassed_told : {L : Type 0} (told : Option (List ℕ)) (m : FinMap nat_cmp ℕ) (o : Opened) (tables : Tables L) (finding : Finding)
    → IfSome told (λ image. opened (overlaid m 0 image) ≡ Ok o)
    → IfSome told (λ image. AreTablesOf o (overlaid m 0 image) tables)
    → IsFoundIn o tables (Some finding)
    → IfSome told (λ image. full_check (overlaid m 0 image) ≡ Refusal finding)
unpassed_told None m o tables finding is filled by = tt
unpassed_told (Some image) m o tables finding is filled by =
    not_passed (overlaid m 0 image) o finding is (accounts_are (overlaid m 0 image) o tables (Some finding) is filled by)

-- the same where the disk tells the same bytes once the image is open
pub found_told : {L : Type 0} (told now : Option (List ℕ)) (m : FinMap nat_cmp ℕ) (o : Opened) (tables : Tables L) (finding : Finding)
    → now ≡ told → m ≡ empty
    → IfSome told (λ image. opened (overlaid m 0 image) ≡ Ok o)
    → IfSome now (λ image. AreTablesOf o (overlaid m 0 image) tables)
    → IsFoundIn o tables (Some finding)
    → IfSome told (λ image. IsRefusal image (Found finding))
found_told told now m o tables finding same none is filled by =
    refused_told told m finding none (unpassed_told told m o tables finding is (rw same at filled) by)

-- the steps stopped before the trees that root items name
pub halted_open : {D : Type 0} (disk : Ghosts D) (at : D) (m : FinMap nat_cmp ℕ) (halt : Halt) → m ≡ empty
    → Gives {A = Opened} disk at m (Err halt) opened
    → IfSome (disk.bytes at) (λ image. IsRefusal image halt)
halted_open disk at m Disk none gives = halted_told (disk.bytes at)
halted_open disk at m NoMemory none gives = halted_told (disk.bytes at)
halted_open disk at m (Found finding) none gives =
    refused_told (disk.bytes at) m finding none (unopened_told (disk.bytes at) m finding gives)

-- they stopped among these trees
pub halted_tables : {D : Type 0} (disk : Ghosts D) (at later : D) (m : FinMap nat_cmp ℕ) (o : Opened) (halt : Halt)
    → disk.bytes later ≡ disk.bytes at → m ≡ empty
    → IfSome (disk.bytes at) (λ image. opened (overlaid m 0 image) ≡ Ok o)
    → Gives {A = Unit {0}} disk later m (Err halt) (named_walk o)
    → IfSome (disk.bytes at) (λ image. IsRefusal image halt)
halted_tables disk at later m o Disk same none is gives = halted_told (disk.bytes at)
halted_tables disk at later m o NoMemory same none is gives = halted_told (disk.bytes at)
halted_tables disk at later m o (Found finding) same none is gives =
    refused_told (disk.bytes at) m finding none (unread_told (disk.bytes at) m o finding is (rw same at gives))

-- memory was wanting
pub halted_memory : (told : Option (List ℕ)) → IfSome told (λ image. IsRefusal image NoMemory)
halted_memory told = halted_told told
