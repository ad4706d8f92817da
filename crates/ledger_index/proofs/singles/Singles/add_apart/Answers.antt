use Rattle.std.proofs.Common.{ap, arith, sym, refl}
use Rattle.ledger_keys.specs.Sums.{raise}
use Rattle.ledger_maps.specs.Entries.{by_parts}
use Rattle.ledger_keys.specs.Kept.{sums_at}
use Rattle.ledger_index.specs.Singles.{entries_of, long_in}
use Rattle.ledger_keys.specs.LongPlace.{is_same_long, part_of}
use Rattle.verdict.proofs.Answers.{ok_follows, on_err as in_err}
use Rattle.ledger_keys.proofs.SumLaws.{raise_none}
use Rattle.ledger_maps.proofs.EntryLaws.{changes_after, full_as, on_err, stays_after}
use Rattle.ledger_index.proofs.SinglesLaws.{all_stay, at_long, at_whole, long_changed, whole_changed}
use Rattle.ledger_index.proofs.singles.Singles.add_apart.Goals as goal

-- out of memory for the parts of the table, all stays
pub returns-in_err-seed-in-Some-clause-err : goal.returns-in_err-seed-in-Some-clause-err
returns-in_err-seed-in-Some-clause-err c =
    in_err c.from_residual.result (all_stay _ _ (λ p n. refl) (λ l n. ap (λ o. sums_at o n) (c.seed.ensures.same l)) (λ q n. refl))

pub returns-in_err-seed-in-Some-clause-few : goal.returns-in_err-seed-in-Some-clause-few
unfolding entries_of
returns-in_err-seed-in-Some-clause-few c = omega (arith, c.seed.ensures.count)

pub returns-in_ok-seed-in-Some-clause-ok : goal.returns-in_ok-seed-in-Some-clause-ok
returns-in_ok-seed-in-Some-clause-ok c =
    ok_follows c.add.result (λ is. long_changed raise raise_none _ _ _ _ _ _ c.requires.apart (sym c.in-Some.ensures)
    (changes_after is_same_long raise (long_in c.args.self.now) (by_parts is_same_long part_of c.seed.new.self.parts.items)
    (by_parts is_same_long part_of c.add.new.self.parts.items) _ _ _ c.seed.ensures.same is) (λ l. refl) (λ q. refl)) c.add.ensures.ok

pub returns-in_ok-seed-in-Some-clause-err : goal.returns-in_ok-seed-in-Some-clause-err
returns-in_ok-seed-in-Some-clause-err c =
    on_err c.add.result (λ is. all_stay _ _ (λ p n. refl)
    (stays_after (long_in c.args.self.now) (by_parts is_same_long part_of c.seed.new.self.parts.items)
    (by_parts is_same_long part_of c.add.new.self.parts.items) c.seed.ensures.same is)
    (λ q n. refl)) c.add.ensures.err

pub returns-in-None-clause-ok : goal.returns-in-None-clause-ok
returns-in-None-clause-ok c =
    ok_follows c.add-in-None.result (λ is. whole_changed raise raise_none _ _ _ _ _ c.requires.apart (sym c.in-None.ensures) is (λ l. refl) (λ p. refl)) c.add-in-None.ensures.ok

pub returns-in-None-clause-err : goal.returns-in-None-clause-err
returns-in-None-clause-err c = on_err c.add-in-None.result (λ is. all_stay _ _ (λ p n. refl) (λ l n. refl) is) c.add-in-None.ensures.err

pub returns-in_ok-seed-in-Some-clause-full : goal.returns-in_ok-seed-in-Some-clause-full
returns-in_ok-seed-in-Some-clause-full c = full_as c.add.result _ _ (at_long _ _ _ (sym c.requires.apart) c.in-Some.ensures c.args.field) c.add.ensures.full

pub returns-in-None-clause-full : goal.returns-in-None-clause-full
returns-in-None-clause-full c =
    full_as c.add-in-None.result _ _ (at_whole _ _ (sym c.requires.apart) c.in-None.ensures c.args.field) c.add-in-None.ensures.full

-- there is an entry more at most
pub returns-in_ok-seed-in-Some-clause-few : goal.returns-in_ok-seed-in-Some-clause-few
unfolding entries_of
returns-in_ok-seed-in-Some-clause-few c = omega (arith, c.add.ensures.few, c.seed.ensures.count)

pub returns-in-None-clause-few : goal.returns-in-None-clause-few
unfolding entries_of
returns-in-None-clause-few c = omega (arith, c.add-in-None.ensures.few)
