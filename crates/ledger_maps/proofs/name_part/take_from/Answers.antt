use Rattle.std.proofs.Common.{◌≡◌, refl, sym, subst}
use Rattle.std.specs.Prelude.{Some, None}
use Rattle.indexmap.specs.IndexMap.{with_value_at}
use Rattle.ledger_maps.specs.Entries.{by_key}
use Rattle.ledger_keys.specs.Kept.{kept_sum, sums_at}
use Rattle.ledger_keys.specs.LongPlace.{is_same_long}
use Rattle.ledger_keys.specs.LongPlaceLaws.{long_equiv, own_long}
use Rattle.ledger_keys.specs.Shifts.{Shifts}
use Rattle.ledger_keys.specs.Side.{IsCounted, is_same_side, side_of}
use Rattle.ledger_keys.specs.Sums.{lower}
use Rattle.ledger_keys.proofs.SumLaws.{lower_none}
use Rattle.ledger_maps.proofs.NamesLaws.{counted_put, names_shift, others_put}
use Rattle.ledger_maps.proofs.PlacedLaws.{gone_placed, kept_at, put_at}
use Rattle.ledger_keys.proofs.SideLaws.{shifts_away}
use Rattle.ledger_maps.proofs.name_part.take_from.Goals as goal

-- the entry went away
pub returns-then-not-is_counted-clause-less : goal.returns-then-not-is_counted-clause-less
returns-then-not-is_counted-clause-less c =
    let m = c.args.map.now in
    let key = c.args.name.now.place in
    let gone = gone_placed is_same_long long_equiv m m c.swap_remove_index.new.self c.args.at key c.lower_side-had.new.self c.swap_remove_index.result
    refl c.get_index_mut.ensures.unique c.requires.there c.swap_remove_index.ensures.entry c.swap_remove_index.ensures.updates in
    let had : by_key is_same_long m key ≡ Some c.unwrap-kept.result.now = kept_at is_same_long m m c.args.at key c.get_index_mut.result c.unwrap-kept.result refl c.requires.there
    c.unwrap-kept.ensures c.get_index_mut.ensures.value in
    names_shift (by_key is_same_long m) (by_key is_same_long c.swap_remove_index.new.self) key None gone (own_long key) lower lower_none c.args.name.now.side c.args.field c.args.amount
    (subst (λ o. Shifts is_same_side lower (side_of (sums_at o)) (side_of (sums_at None)) c.args.name.now.side c.args.field c.args.amount) (sym had)
    (shifts_away (kept_sum c.unwrap-kept.result.now) (kept_sum c.lower_side-had.new.self) c.args.name.now.side c.args.field c.args.amount c.lower_side-had.ensures.less
    (λ is. absurd (cc (c.is_counted.ensures.1 is, c.if-not-is_counted.true)))))

pub returns-then-not-is_counted-clause-counted : goal.returns-then-not-is_counted-clause-counted
returns-then-not-is_counted-clause-counted c =
    let m = c.args.map.now in
    let key = c.args.name.now.place in
    let gone = gone_placed is_same_long long_equiv m m c.swap_remove_index.new.self c.args.at key c.lower_side-had.new.self c.swap_remove_index.result
    refl c.get_index_mut.ensures.unique c.requires.there c.swap_remove_index.ensures.entry c.swap_remove_index.ensures.updates in
    λ counted. counted_put (by_key is_same_long m) (by_key is_same_long c.swap_remove_index.new.self) key None gone (own_long key) counted (λ k at. absurd (cc at))

-- it has the sums that are left
pub returns-else-not-is_counted-clause-less : goal.returns-else-not-is_counted-clause-less
returns-else-not-is_counted-clause-less c =
    let m = c.args.map.now in
    let key = c.args.name.now.place in
    let put = put_at is_same_long long_equiv m c.args.at key c.lower_side-had.new.self c.get_index_mut.ensures.unique c.requires.there in
    let had : by_key is_same_long m key ≡ Some c.unwrap-kept.result.now = kept_at is_same_long m m c.args.at key c.get_index_mut.result c.unwrap-kept.result refl c.requires.there
    c.unwrap-kept.ensures c.get_index_mut.ensures.value in
    names_shift (by_key is_same_long m) (by_key is_same_long (with_value_at m c.args.at c.lower_side-had.new.self)) key (Some c.lower_side-had.new.self) put (own_long key) lower lower_none
    c.args.name.now.side c.args.field c.args.amount
    (subst (λ o. Shifts is_same_side lower (side_of (sums_at o)) (side_of (kept_sum c.lower_side-had.new.self)) c.args.name.now.side c.args.field c.args.amount) (sym had) c.lower_side-had.ensures.less)

pub returns-else-not-is_counted-clause-counted : goal.returns-else-not-is_counted-clause-counted
returns-else-not-is_counted-clause-counted c =
    let m = c.args.map.now in
    let key = c.args.name.now.place in
    let put = put_at is_same_long long_equiv m c.args.at key c.lower_side-had.new.self c.get_index_mut.ensures.unique c.requires.there in
    λ counted. counted_put (by_key is_same_long m) (by_key is_same_long (with_value_at m c.args.at c.lower_side-had.new.self)) key (Some c.lower_side-had.new.self) put (own_long key) counted
    (λ k at. let e : c.lower_side-had.new.self ≡ k = cc at in subst (λ x. IsCounted (kept_sum x)) e (c.is_counted.ensures.0 c.if-not-is_counted.false))

pub returns-then-not-is_counted-clause-others : goal.returns-then-not-is_counted-clause-others
returns-then-not-is_counted-clause-others c =
    let m = c.args.map.now in
    let key = c.args.name.now.place in
    others_put (by_key is_same_long m) (by_key is_same_long c.swap_remove_index.new.self) key None
    (gone_placed is_same_long long_equiv m m c.swap_remove_index.new.self c.args.at key c.lower_side-had.new.self c.swap_remove_index.result
    refl c.get_index_mut.ensures.unique c.requires.there c.swap_remove_index.ensures.entry c.swap_remove_index.ensures.updates)

pub returns-else-not-is_counted-clause-others : goal.returns-else-not-is_counted-clause-others
returns-else-not-is_counted-clause-others c =
    let m = c.args.map.now in
    let key = c.args.name.now.place in
    others_put (by_key is_same_long m) (by_key is_same_long (with_value_at m c.args.at c.lower_side-had.new.self)) key (Some c.lower_side-had.new.self)
    (put_at is_same_long long_equiv m c.args.at key c.lower_side-had.new.self c.get_index_mut.ensures.unique c.requires.there)
