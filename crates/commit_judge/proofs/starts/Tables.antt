-- What two make of all records of an image: its live pairs, and what fills the other tables of its index.
use Rattle.std.proofs.Common.{◌≡◌, ℕ, ◌+◌, List, [], ◌∷◌, ◌++◌, ◌≤◌, length, Option, Some, None, Ok, Err, IfOk, IfSome, refl, ap, sym, ◌∙◌, subst, arith}
use Rattle.std.specs.Ordering.{nat_cmp}
use Rattle.std.specs.FinMap.{FinMap}
use Rattle.std.specs.List.{filter_map, fold}
use Rattle.plain_check.proofs.Keeping.{both_fold}
use Rattle.plain_check.proofs.Sums.{fold_accounted}
use Rattle.verdict.specs.Rules.{and_then}
use Rattle.verdict.specs.declared.finding.Finding.{Finding}
use Rattle.account_tally.specs.Sums.{none_free}
use Rattle.account_tally.proofs.Taken.{first_free}
use Rattle.block_source.specs.Gives.{Gives}
use Rattle.block_source.specs.declared.halt.Halt.{Halt}
use Rattle.block_source.specs.declared.halt.Halt.TheVariants.{Found, Disk, NoMemory}
use Rattle.ledger_index.specs.Ledger.{entries_of, sums_of}
use Rattle.live_index.specs.Table.{pairs_of}
use Rattle.live_index.specs.declared.live.Live.{Live}
use Rattle.live_maker.specs.Opened.{finished, no_lives, with_record as with_live}
use Rattle.live_maker.proofs.Made.{lives_made}
use Rattle.plain_check.specs.Opened.{Opened, named_records, volume_records}
use Rattle.plain_check.specs.OpeningLaw.{contents_with}
use Rattle.recon_disk.specs.declared.disk.Disk.{Ghosts}
use Rattle.records.specs.Contents.{super_record}
use Rattle.records.specs.Part.{Located}
use Rattle.records.specs.Seen.{Seen, accounted}
use Rattle.records.specs.Seen.Seen.{BlockSeen, PointerSeen, ItemSeen}
use Rattle.records.specs.Takes.{held_after, with_accounted, with_both}
use Rattle.records.specs.Walk.{Records, behind}
use Rattle.tree_laws.specs.LivePairs.{live_in, table_of}
use Rattle.span_index.specs.Table.{times_of}
use Rattle.span_index.specs.declared.span.Span.{Span}
use Rattle.touched_accounts.specs.Looks.{HaveLooks}
use Rattle.write_cache.specs.Cache.{overlaid}
use Rattle.commit_judge.specs.Filling.{AreFewToMake, AreTablesOf, AreTablesWith, FewToMake, Filled, named_walk, of_none, with_located}
use Rattle.commit_judge.specs.Flags.{free_in}
use Rattle.commit_judge.specs.declared.filling.Tables.{Tables}
use Rattle.commit_judge.proofs.starts.Filling.{began_after, free_after, looks_after, spans_after, sums_after}

-- the live pairs and what fills the other tables
abbrev pub Made : Type 0
Made = List Live × Filled

abbrev pub with_made : Made → Seen → Made
with_made = with_both with_live (with_accounted with_located)

-- what the two made of all records of an image of which this is known, where the disk tells it
abbrev pub AreTaken : Option (List ℕ) → FinMap nat_cmp ℕ → Opened → Made → Made → Type 0
AreTaken told m o start all =
    IfSome told (λ image. held_after with_made start (volume_records o (overlaid m 0 image)) ≡ Ok all)

-- ---- the walk of the trees that root items name

read_case : (o : Opened) (records : Records) (start all : Made)
    → held_after with_made start (behind (ItemSeen (super_record o.sup) ∷ o.seen) records) ≡ Ok all
    → and_then {A = List Seen} {B = Unit {0}} records (λ more. Ok (tt {0})) ≡ Ok (tt {0})
unfolding behind
read_case o (Err other) start all is = absurd (cc is)
read_case o (Ok more) start all is = refl

-- they were read to their end
pub read_told : (told : Option (List ℕ)) (m : FinMap nat_cmp ℕ) (o : Opened) (start all : Made)
    → AreTaken told m o start all → IfSome told (λ image. named_walk o (overlaid m 0 image) ≡ Ok (tt {0}))
read_told None m o start all is = tt
read_told (Some image) m o start all is = read_case o (named_records o (overlaid m 0 image)) start all is

unread_case : (o : Opened) (records : Records) (start : Made) (finding : Finding)
    → held_after with_made start (behind (ItemSeen (super_record o.sup) ∷ o.seen) records) ≡ Err finding
    → and_then {A = List Seen} {B = Unit {0}} records (λ more. Ok (tt {0})) ≡ Err finding
unfolding behind
unread_case o (Err other) start finding is = cc (is)
unread_case o (Ok more) start finding is = absurd (cc is)

unread : (told : Option (List ℕ)) (m : FinMap nat_cmp ℕ) (o : Opened) (start : Made) (finding : Finding)
    → IfSome told (λ image. held_after with_made start (volume_records o (overlaid m 0 image)) ≡ Err finding)
    → IfSome told (λ image. named_walk o (overlaid m 0 image) ≡ Err finding)
unread None m o start finding is = tt
unread (Some image) m o start finding is = unread_case o (named_records o (overlaid m 0 image)) start finding is

pub halted_told : (told : Option (List ℕ)) → IfSome told (λ _. Unit {0})
halted_told None = tt
halted_told (Some image) = tt

-- they were not read to their end
pub halted_reading : {D : Type 0} (disk : Ghosts D) (at : D) (m : FinMap nat_cmp ℕ) (o : Opened) (start : Made) (halt : Halt)
    → Gives {A = Made} disk at m (Err halt) (λ image. held_after with_made start (volume_records o image))
    → Gives {A = Unit {0}} disk at m (Err halt) (named_walk o)
halted_reading disk at m o start Disk gives = tt
halted_reading disk at m o start NoMemory gives = halted_told (disk.bytes at)
halted_reading disk at m o start (Found finding) gives = unread (disk.bytes at) m o start finding gives

-- ---- the tables

-- what each of the two made
each_made : (o : Opened) (more : List Seen) (lives lives' : List Live) (filled filled' : Filled)
    → fold with_made (lives, filled) (ItemSeen (super_record o.sup) ∷ (o.seen ++ more)) ≡ (lives', filled')
    → (fold with_live lives (ItemSeen (super_record o.sup) ∷ (o.seen ++ more)) ≡ lives')
    × (fold with_located filled (super_record o.sup ∷ filter_map accounted (o.seen ++ more)) ≡ filled')
each_made o more lives lives' filled filled' is =
    let all = ItemSeen (super_record o.sup) ∷ (o.seen ++ more) in
    let two : (fold with_live lives all, fold (with_accounted with_located) filled all) ≡ (lives', filled') =
    sym (both_fold with_live (with_accounted with_located) lives filled all) ∙ is in (
      ap (λ (both : Made). both.0) two,
      sym (fold_accounted with_located filled all) ∙ ap (λ (both : Made). both.1) two,
    )

nothing_more : (n : ℕ) → 0 + n ≡ n
nothing_more n = omega arith

-- what was made, put into the tables
pub record IsPut {L : Type 0} (lives : List Live) (filled : Filled) (tables : Tables L) : Type 0 where
  pub live : pairs_of tables.live ≡ table_of (finished lives)
  pub sums : sums_of tables.totals ≡ filled.sums
  pub spans : times_of tables.spans ≡ filled.spans
  pub free : free_in tables.free ≡ filled.free

tables_made : {L : Type 0} (o : Opened) (records : Records) (lives lives' : List Live) (filled filled' : Filled) (tables : Tables L) (began : ℕ)
    → lives ≡ no_lives → filled ≡ of_none o.chunks o.sup.nodesize began
    → held_after with_made (lives, filled) (behind (ItemSeen (super_record o.sup) ∷ o.seen) records) ≡ Ok (lives', filled')
    → IsPut lives' filled' tables
    → (more : List Seen) × (records ≡ Ok more) × AreTablesWith o more tables
unfolding behind
tables_made o (Err finding) lives lives' filled filled' tables began none empty taken put = absurd (cc taken)
tables_made o (Ok more) lives lives' filled filled' tables began none empty taken put =
    let made = each_made o more lives lives' filled filled' (cc (taken)) in
    let all = o.seen ++ more in
    let held = (contents_with o more).records in
    let nothing = of_none o.chunks o.sup.nodesize began in
    let of_lives : fold with_live no_lives all ≡ lives' =
    ap (λ (l : List Live). fold with_live l (ItemSeen (super_record o.sup) ∷ all)) (sym none) ∙ made.0 in
    let of_filled : fold with_located nothing held ≡ filled' =
    ap (λ (f : Filled). fold with_located f held) (sym empty) ∙ made.1 in (
      more,
      refl,
      record {
        live = put.live ∙ ap (λ (l : List Live). table_of (finished l)) (sym of_lives) ∙ ap table_of (lives_made all);
        sums = put.sums ∙ ap (λ (f : Filled). f.sums) (sym of_filled) ∙ sums_after held nothing none_free;
        spans = λ span. ap (λ (t : Span → ℕ). t span) put.spans ∙ ap (λ (f : Filled). f.spans span) (sym of_filled) ∙ spans_after held nothing span ∙ nothing_more _;
        free = put.free ∙ ap (λ (f : Filled). f.free) (sym of_filled) ∙ free_after held nothing ∙ first_free held;
      },
    )

pub tables_told : {L : Type 0} (told : Option (List ℕ)) (m : FinMap nat_cmp ℕ) (o : Opened) (lives lives' : List Live)
    (filled filled' : Filled) (tables : Tables L) (began : ℕ)
    → lives ≡ no_lives → filled ≡ of_none o.chunks o.sup.nodesize began
    → AreTaken told m o (lives, filled) (lives', filled')
    → IsPut lives' filled' tables
    → IfSome told (λ image. AreTablesOf o (overlaid m 0 image) tables)
tables_told None m o lives lives' filled filled' tables began none empty taken put = tt
tables_told (Some image) m o lives lives' filled filled' tables began none empty taken put =
    tables_made o (named_records o (overlaid m 0 image)) lives lives' filled filled' tables began none empty taken put

-- ---- the looks

-- a counter that tells a number counted no more than what that number is below
pub left_as : (now told made most : ℕ) → told ≡ now → told ≡ made → made ≤ most → now ≤ most
left_as now told made most is same less = omega (arith, is, same, less)

as_many : (lives : List Live) → length (finished lives) ≡ length lives
unfolding finished
as_many [] = refl
as_many (live ∷ more) = let rest = as_many more in omega (arith, rest)

few_made : {L : Type 0} (o : Opened) (records : Records) (lives lives' : List Live) (filled filled' : Filled) (tables : Tables L) (began after : ℕ)
    → lives ≡ no_lives → filled ≡ of_none o.chunks o.sup.nodesize began
    → held_after with_made (lives, filled) (behind (ItemSeen (super_record o.sup) ∷ o.seen) records) ≡ Ok (lives', filled')
    → HaveLooks filled'.began (entries_of tables.totals) filled'.looks
    → after ≤ filled'.looks + length lives'
    → IfOk records (λ more. AreFewToMake o more tables began after)
unfolding behind
few_made o (Err finding) lives lives' filled filled' tables began after none empty taken entries looks = absurd (cc taken)
few_made o (Ok more) lives lives' filled filled' tables began after none empty taken entries looks =
    let made = each_made o more lives lives' filled filled' (cc (taken)) in
    let all = o.seen ++ more in
    let held = (contents_with o more).records in
    let nothing = of_none o.chunks o.sup.nodesize began in
    let of_lives : fold with_live no_lives all ≡ lives' =
    ap (λ (l : List Live). fold with_live l (ItemSeen (super_record o.sup) ∷ all)) (sym none) ∙ made.0 in
    let of_filled : fold with_located nothing held ≡ filled' =
    ap (λ (f : Filled). fold with_located f held) (sym empty) ∙ made.1 in
    let filled_few = looks_after held nothing none_free in
    let looks_are : (fold with_located nothing held).looks ≡ filled'.looks = ap (λ (f : Filled). f.looks) of_filled in
    let began_is : filled'.began ≡ began = ap (λ (f : Filled). f.began) (sym of_filled) ∙ began_after held nothing in
    let pairs : length lives' ≡ length (live_in all) = ap length (sym of_lives) ∙ sym (as_many (fold with_live no_lives all)) ∙ ap length (lives_made all) in
    record {
      between = filled'.looks;
      filled = omega (arith, filled_few, looks_are);
      entries = subst (λ (n : ℕ). HaveLooks n (entries_of tables.totals) filled'.looks) began_is entries;
      pairs = omega (arith, looks, pairs);
    }

pub few_told : {L : Type 0} (told : Option (List ℕ)) (m : FinMap nat_cmp ℕ) (o : Opened) (lives lives' : List Live)
    (filled filled' : Filled) (tables : Tables L) (began after : ℕ)
    → lives ≡ no_lives → filled ≡ of_none o.chunks o.sup.nodesize began
    → AreTaken told m o (lives, filled) (lives', filled')
    → HaveLooks filled'.began (entries_of tables.totals) filled'.looks
    → after ≤ filled'.looks + length lives'
    → IfSome told (λ image. FewToMake o (overlaid m 0 image) tables began after)
few_told None m o lives lives' filled filled' tables began after none empty taken entries looks = tt
few_told (Some image) m o lives lives' filled filled' tables began after none empty taken entries looks =
    few_made o (named_records o (overlaid m 0 image)) lives lives' filled filled' tables began after none empty taken entries looks
