use Rattle.std.proofs.Common.{◌≡◌, refl, sym, subst}
use Rattle.std.specs.Prelude.{Some}
use Rattle.indexmap.specs.IndexMap.{with_value_at}
use Rattle.indexmap.specs.Layout.{length-set_value_at}
use Rattle.ledger_maps.specs.Entries.{by_key}
use Rattle.ledger_keys.specs.Kept.{kept_sum, sums_at}
use Rattle.ledger_keys.specs.LongPlace.{is_same_long}
use Rattle.ledger_keys.specs.LongPlaceLaws.{long_equiv, own_long}
use Rattle.ledger_keys.specs.Shifts.{Posted, Rests}
use Rattle.ledger_keys.specs.Side.{IsCounted, is_same_side, side_of}
use Rattle.ledger_maps.proofs.EntryLaws.{on_err}
use Rattle.ledger_maps.proofs.NamesLaws.{counted_put, names_posted, names_rest, others_put}
use Rattle.ledger_maps.proofs.PlacedLaws.{kept_at, put_at}
use Rattle.verdict.proofs.Answers.{each_ok}
use Rattle.ledger_maps.proofs.name_part.post_at.Goals as goal

pub returns-clause-counted : goal.returns-clause-counted
returns-clause-counted c =
    let m = c.args.map.now in
    let key = c.args.name.now.place in
    let put = put_at is_same_long long_equiv m c.args.at key c.post.new.self c.get_index_mut.ensures.unique c.requires.there in
    let had = kept_at is_same_long m m c.args.at key c.get_index_mut.result c.unwrap-kept.result refl c.requires.there
    c.unwrap-kept.ensures c.get_index_mut.ensures.value in
    λ counted. counted_put (by_key is_same_long m) (by_key is_same_long (with_value_at m c.args.at c.post.new.self)) key (Some c.post.new.self) put (own_long key)
    counted (λ k at. let e : c.post.new.self ≡ k = cc at in
    subst (λ x. IsCounted (kept_sum x)) e (c.post.ensures.counted (counted key c.unwrap-kept.result.now had)))

pub returns-clause-others : goal.returns-clause-others
returns-clause-others c =
    others_put (by_key is_same_long c.args.map.now) (by_key is_same_long (with_value_at c.args.map.now c.args.at c.post.new.self)) c.args.name.now.place (Some c.post.new.self)
    (put_at is_same_long long_equiv c.args.map.now c.args.at c.args.name.now.place c.post.new.self c.get_index_mut.ensures.unique c.requires.there)

pub returns-clause-ok : goal.returns-clause-ok
returns-clause-ok c =
    let m = c.args.map.now in
    let key = c.args.name.now.place in
    let put = put_at is_same_long long_equiv m c.args.at key c.post.new.self c.get_index_mut.ensures.unique c.requires.there in
    let had : by_key is_same_long m key ≡ Some c.unwrap-kept.result.now = kept_at is_same_long m m c.args.at key c.get_index_mut.result c.unwrap-kept.result refl c.requires.there
    c.unwrap-kept.ensures c.get_index_mut.ensures.value in
    each_ok c.post.result (λ full is. names_posted (by_key is_same_long m) (by_key is_same_long (with_value_at m c.args.at c.post.new.self)) key (Some c.post.new.self) put (own_long key)
    c.args.may_begin c.args.name.now.side c.args.field c.args.amount full
    (subst (λ o. Posted is_same_side c.args.may_begin c.args.name.now.side c.args.field c.args.amount (side_of (sums_at o)) (side_of (kept_sum c.post.new.self)) full) (sym had) is))
    c.post.ensures.ok

pub returns-clause-err : goal.returns-clause-err
returns-clause-err c =
    let m = c.args.map.now in
    let key = c.args.name.now.place in
    let put = put_at is_same_long long_equiv m c.args.at key c.post.new.self c.get_index_mut.ensures.unique c.requires.there in
    let had : by_key is_same_long m key ≡ Some c.unwrap-kept.result.now = kept_at is_same_long m m c.args.at key c.get_index_mut.result c.unwrap-kept.result refl c.requires.there
    c.unwrap-kept.ensures c.get_index_mut.ensures.value in
    on_err c.post.result (λ rest. names_rest (by_key is_same_long m) (by_key is_same_long (with_value_at m c.args.at c.post.new.self)) key (Some c.post.new.self) put (own_long key)
    (subst (λ o. Rests (side_of (sums_at o)) (side_of (kept_sum c.post.new.self))) (sym had) rest)) c.post.ensures.err

-- there are as many entries
pub returns-clause-few : goal.returns-clause-few
returns-clause-few c = length-set_value_at c.args.map.now.entries c.args.at c.post.new.self
