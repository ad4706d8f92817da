-- What the accounts of all records decide.
use Rattle.std.proofs.Common.{◌≡◌, ℕ, List, [], ◌∷◌, ◌++◌, refl, ap, sym, ◌∙◌, Ok, Err}
use Rattle.std.specs.Prelude.{Option, Some, None, IfSome}
use Rattle.std.specs.Ordering.{nat_cmp}
use Rattle.std.specs.FinMap.{FinMap}
use Rattle.std.specs.List.{fold, filter_map}
use Rattle.write_cache.specs.Cache.{overlaid}
use Rattle.verdict.specs.Rules.{and_then, finding_or}
use Rattle.verdict.specs.declared.finding.Finding.{Finding}
use Rattle.records.specs.Part.{Located}
use Rattle.records.specs.Context.{has_sum_free}
use Rattle.records.specs.Contents.{Contents, super_record}
use Rattle.records.specs.Postings.{account_fault}
use Rattle.records.specs.Seen.{Seen, accounted}
use Rattle.records.specs.Seen.Seen.{BlockSeen, PointerSeen, ItemSeen}
use Rattle.records.specs.Takes.{held_after, with_accounted}
use Rattle.records.specs.Walk.{Records, behind}
use Rattle.account_tally.specs.Sums.{Summed, context_with, of_none, with_record}
use Rattle.plain_check.specs.Accounts.{accounts_in, accounts_of}
use Rattle.plain_check.specs.Opened.{Opened, named_records, volume_records}
use Rattle.plain_check.specs.OpeningLaw.{contents_with}

-- what is made of what accounts see is made of these alone
pub fold_accounted : {H : Type 0} (with : H → Located → H) (held : H) (records : List Seen) → fold (with_accounted with) held records ≡ fold with held (filter_map accounted records)
fold_accounted with held [] = refl
fold_accounted with held (BlockSeen block ∷ records) = fold_accounted with _ records
fold_accounted with held (PointerSeen pointer ∷ records) = fold_accounted with held records
fold_accounted with held (ItemSeen one ∷ records) = fold_accounted with (with held one) records

-- all records were taken, and this was found of what they make
decided : (o : Opened) (records : Records) (final : Summed) (found : Option Finding)
    → held_after (with_accounted with_record) (of_none o.chunks o.sup.nodesize) (behind (ItemSeen (super_record o.sup) ∷ o.seen) records) ≡ Ok final
    → ((taken : List Located) → fold with_record (of_none o.chunks o.sup.nodesize) taken ≡ final → found ≡ account_fault (context_with o.chunks o.sup.nodesize (has_sum_free taken)) taken)
    → and_then {A = Contents} {B = Unit {0}} (and_then {A = List Seen} {B = Contents} records (λ more. Ok (contents_with o more))) accounts_of ≡ finding_or found (tt {0})
unfolding behind
decided o (Err finding) final found held is = absurd (cc held)
decided o (Ok more) final found held is =
    let none = of_none o.chunks o.sup.nodesize in
    let all = o.seen ++ more in
    let whole : fold (with_accounted with_record) none (ItemSeen (super_record o.sup) ∷ all) ≡ final = cc (held) in
    ap (λ f. finding_or f (tt {0})) (sym (is (super_record o.sup ∷ filter_map accounted all) (sym (fold_accounted with_record none (ItemSeen (super_record o.sup) ∷ all)) ∙ whole)))

-- what was found is what the accounts of the image give, where the disk tells its bytes
pub told_decided : (told : Option (List ℕ)) (m : FinMap nat_cmp ℕ) (o : Opened) (start final : Summed) (found other : Option Finding)
    → start ≡ of_none o.chunks o.sup.nodesize
    → IfSome told (λ image. held_after (with_accounted with_record) start (volume_records o (overlaid m 0 image)) ≡ Ok final)
    → ((taken : List Located) → fold with_record (of_none o.chunks o.sup.nodesize) taken ≡ final → found ≡ account_fault (context_with o.chunks o.sup.nodesize (has_sum_free taken)) taken)
    → found ≡ other
    → IfSome told (λ image. accounts_in o (overlaid m 0 image) ≡ finding_or other (tt {0}))
unfolding accounts_in
told_decided None m o start final found other begins held is same = tt
told_decided (Some image) m o start final found other begins held is same =
    decided o (named_records o (overlaid m 0 image)) final found
    (ap (λ s. held_after (with_accounted with_record) s (volume_records o (overlaid m 0 image))) (sym begins) ∙ held) is
    ∙ ap (λ f. finding_or f (tt {0})) same
