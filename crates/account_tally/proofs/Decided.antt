-- What was found is what the accounts of all records say.
use Rattle.std.proofs.Common.{◌≡◌, ℕ, ◌+◌, List, [], refl, ap, sym, ◌∙◌, subst}
use Rattle.std.specs.Prelude.{Option, option_map}
use Rattle.std.specs.List.{fold}
use Rattle.verdict.specs.declared.place.Chunk.{Chunk}
use Rattle.accounts.specs.declared.account.Account.{Account}
use Rattle.accounts.specs.declared.postings.Posting.{Posting}
use Rattle.accounts.specs.Broken.{broken_finding}
use Rattle.accounts.specs.Least.{least_broken}
use Rattle.std.proofs.Math.Path.{fun_ext}
use Rattle.accounts.specs.Broken.{is_broken}
use Rattle.accounts.specs.Least as accounts
use Rattle.accounts.specs.Apart.{AddsUp}
use Rattle.accounts.specs.Tally.{Sums, no_sums, with_postings}
use Rattle.accounts.proofs.First.{least_by_sums}
use Rattle.accounts.proofs.Kept.{with_none as no_postings}
use Rattle.sector_runs.specs.Runs.{IsLeastBroken, SectorSums, no_sectors}
use Rattle.records.specs.Part.{Located}
use Rattle.records.specs.Context.{has_sum_free, sum_free_inode}
use Rattle.records.specs.Postings.{account_fault, all_postings}
use Rattle.account_tally.specs.Sums.{Summed, context_with, none_free, of_none, or_free, rest_of, with_record, with_sectors}
use Rattle.account_tally.specs.Kept.{chosen, held_sums}
use Rattle.account_tally.proofs.Joined.{joined}
use Rattle.account_tally.proofs.Parts.{held_added, held_broken, held_more, none_held}
use Rattle.account_tally.proofs.Taken.{are_sums, first_free, folded, from_these, rest_all, with_all}

-- what all records make
all_taken : (chunks : List Chunk) (nodesize : ℕ) (records : List Located)
    → fold with_record (of_none chunks nodesize) records
    ≡ from_these chunks nodesize (rest_all chunks nodesize records) (with_all chunks nodesize (λ _. no_sectors) records) (has_sum_free records)
all_taken chunks nodesize records =
    ap (λ s. fold with_record (record { chunks = chunks; nodesize = nodesize; sums = s; sectors = λ _. no_sectors; free = none_free }) records) (sym no_postings)
    ∙ folded chunks nodesize [] (λ _. no_sectors) none_free records
    ∙ ap (λ free. from_these chunks nodesize (rest_all chunks nodesize records) (with_all chunks nodesize (λ _. no_sectors) records) free) (first_free records)

pub decided : (chunks : List Chunk) (nodesize : ℕ) (records : List Located) (final : Summed) (least : Option Account) (found : Option ℕ)
    → fold with_record (of_none chunks nodesize) records ≡ final
    → ((ps : List Posting) → final.sums ≡ with_postings no_sums ps → least ≡ least_broken ps)
    → IsLeastBroken (final.sectors final.free) found
    → option_map broken_finding (chosen found least) ≡ account_fault (context_with chunks nodesize (has_sum_free records)) records
decided chunks nodesize records final least found taken is them =
    let whole : final ≡ from_these chunks nodesize (rest_all chunks nodesize records) (with_all chunks nodesize (λ _. no_sectors) records) (has_sum_free records) =
    sym taken ∙ all_taken chunks nodesize records in
    ap (option_map broken_finding)
    (joined (all_postings (context_with chunks nodesize (has_sum_free records)) records) (rest_all chunks nodesize records)
    (with_all chunks nodesize (λ _. no_sectors) records (has_sum_free records)) least found
    (are_sums chunks nodesize (has_sum_free records) records)
    (is (rest_all chunks nodesize records) (ap (λ (s : Summed). s.sums) whole))
    (subst (λ (sums : SectorSums). IsLeastBroken sums found) (ap (λ (s : Summed). s.sectors s.free) whole) them))

-- a record is taken
pub one_taken : (old new : Summed) (one : Located) (rest next before after : Sums) (waiting more left : List Posting)
    → new.chunks ≡ old.chunks → new.nodesize ≡ old.nodesize
    → old.sums ≡ held_sums rest before waiting → new.sums ≡ held_sums next after left
    → AddsUp before after waiting more (rest_of old.chunks old.nodesize one)
    → next ≡ with_postings rest more → left ≡ []
    → new.sectors ≡ with_sectors old.chunks old.nodesize old.sectors one → new.free ≡ or_free old.free (sum_free_inode one)
    → new ≡ with_record old one
one_taken old new one rest next before after waiting more left chunks nodesize was now adds moved none sectors free =
    let whole : new.sums ≡ with_postings old.sums (rest_of old.chunks old.nodesize one) =
    now ∙ held_added rest next after more left moved none
    ∙ held_more rest before after waiting more (rest_of old.chunks old.nodesize one) adds
    ∙ ap (λ s. with_postings s (rest_of old.chunks old.nodesize one)) (sym was) in
    λ i. record { chunks = chunks i; nodesize = nodesize i; sums = whole i; sectors = sectors i; free = free i }

-- no record is taken yet
pub none_taken : (new : Summed) (chunks : List Chunk) (nodesize : ℕ) (rest apart : Sums) (waiting : List Posting)
    → new.chunks ≡ chunks → new.nodesize ≡ nodesize → new.sums ≡ held_sums rest apart waiting
    → rest ≡ no_sums → ((a : Account) (n : ℕ) → apart a n ≡ 0) → waiting ≡ []
    → new.sectors ≡ (λ _. no_sectors) → new.free ≡ none_free → new ≡ of_none chunks nodesize
none_taken new chunks nodesize rest apart waiting same size are none nothing empty sectors free =
    let sums : new.sums ≡ no_sums = are ∙ none_held rest apart waiting none nothing empty in
    λ i. record { chunks = same i; nodesize = size i; sums = sums i; sectors = sectors i; free = free i }

-- the sums were brought together
pub settled_least : (rest moved settled apart : Sums) (waiting : List Posting) (least : Option Account) (ps : List Posting)
    → accounts.IsLeastBroken (λ a. is_broken a (settled a)) least
    → ((a : Account) → is_broken a (settled a) ≡ is_broken a (λ n. moved a n + apart a n))
    → moved ≡ with_postings rest waiting → held_sums rest apart waiting ≡ with_postings no_sums ps → least ≡ least_broken ps
settled_least rest moved settled apart waiting least ps is alike added posted =
    least_by_sums (held_sums rest apart waiting) least ps
    (subst (λ b. accounts.IsLeastBroken b least)
    (fun_ext (λ a. alike a ∙ held_broken moved apart a ∙ ap (λ (s : Sums). is_broken a (s a)) (held_added rest moved apart waiting [] added refl))) is)
    posted
