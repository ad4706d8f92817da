use Rattle.std.proofs.Common.{ap, arith, sym, refl}
use Rattle.ledger_keys.specs.Sums.{raise}
use Rattle.ledger_maps.specs.Entries.{by_parts}
use Rattle.ledger_keys.specs.Kept.{sums_at}
use Rattle.ledger_index.specs.Singles.{entries_of, short_in}
use Rattle.ledger_keys.specs.Place.{is_same_place, part_of}
use Rattle.verdict.proofs.Answers.{ok_follows, on_err as in_err}
use Rattle.ledger_keys.proofs.SumLaws.{raise_none}
use Rattle.ledger_maps.proofs.EntryLaws.{changes_after, full_as, on_err, stays_after}
use Rattle.ledger_index.proofs.SinglesLaws.{all_stay, at_place, short_changed}
use Rattle.ledger_index.proofs.singles.Singles.add_saturating.Goals as goal

-- to the entry that was last found
pub returns-in-Some-clause-ok : goal.returns-in-Some-clause-ok
returns-in-Some-clause-ok g c =
    ok_follows c.add_at.result (λ is. short_changed raise raise_none _ _ _ _ _ _ c.in-Some.ensures.0 is (λ l. refl) (λ q. refl)) c.add_at.ensures.ok

pub returns-in-Some-clause-err : goal.returns-in-Some-clause-err
returns-in-Some-clause-err g c =
    on_err c.add_at.result (λ is. all_stay _ _ is (λ l n. refl) (λ q n. refl)) c.add_at.ensures.err

pub returns-in-Some-clause-full : goal.returns-in-Some-clause-full
returns-in-Some-clause-full g c = full_as c.add_at.result _ _ (at_place _ _ _ (sym c.in-Some.ensures.0) c.args.field) c.add_at.ensures.full

-- to one that is found by its hash
pub returns-in-Some-of-clause-ok : goal.returns-in-Some-of-clause-ok
returns-in-Some-of-clause-ok g c =
    ok_follows c.add_by_hash.result (λ is. short_changed raise raise_none _ _ _ _ _ _ (sym c.in-Some-of.ensures)
    (changes_after is_same_place raise (short_in c.args.self.now) (by_parts is_same_place part_of c.seed-in-Some-of.new.self.parts.items)
    (by_parts is_same_place part_of c.add_by_hash.new.self.parts.items) _ _ _ c.seed-in-Some-of.ensures.same is) (λ l. refl) (λ q. refl)) c.add_by_hash.ensures.ok

pub returns-in-Some-of-clause-err : goal.returns-in-Some-of-clause-err
returns-in-Some-of-clause-err g c =
    on_err c.add_by_hash.result (λ is. all_stay _ _
    (stays_after (short_in c.args.self.now) (by_parts is_same_place part_of c.seed-in-Some-of.new.self.parts.items)
    (by_parts is_same_place part_of c.add_by_hash.new.self.parts.items) c.seed-in-Some-of.ensures.same is)
    (λ l n. refl) (λ q n. refl)) c.add_by_hash.ensures.err

pub returns-in-Some-of-clause-full : goal.returns-in-Some-of-clause-full
returns-in-Some-of-clause-full g c = full_as c.add_by_hash.result _ _ (at_place _ _ _ c.in-Some-of.ensures c.args.field) c.add_by_hash.ensures.full

-- out of memory for the parts of the table, all stays
pub returns-in_err-seed-clause-err : goal.returns-in_err-seed-clause-err
returns-in_err-seed-clause-err g c =
    in_err c.from_residual.result (all_stay _ _ (λ p n. ap (λ o. sums_at o n) (c.seed-in-Some-of.ensures.same p)) (λ l n. refl) (λ q n. refl))

pub returns-in_err-seed-clause-few : goal.returns-in_err-seed-clause-few
unfolding entries_of
returns-in_err-seed-clause-few g c = omega (arith, c.seed-in-Some-of.ensures.count)

-- there is an entry more at most
pub returns-in-Some-clause-few : goal.returns-in-Some-clause-few
unfolding entries_of
returns-in-Some-clause-few g c = omega (arith, c.add_at.ensures.few)

pub returns-in-Some-of-clause-few : goal.returns-in-Some-of-clause-few
unfolding entries_of
returns-in-Some-of-clause-few g c = omega (arith, c.add_by_hash.ensures.few, c.seed-in-Some-of.ensures.count)
