use Rattle.std.proofs.Common.{◌≡◌, refl}
use Rattle.std.specs.Prelude.{Some, None}
use Rattle.indexmap.specs.IndexMap.{with_value_at}
use Rattle.ledger_maps.specs.Entries.{by_key}
use Rattle.ledger_keys.specs.Sums.{lower}
use Rattle.ledger_keys.proofs.SumLaws.{lower_none}
use Rattle.ledger_maps.proofs.EntryLaws.{changed_entry, lowered_away, lowered_had, tidy_entry, tidy_put}
use Rattle.ledger_maps.proofs.PlacedLaws.{gone_placed, kept_at, put_at}
use Rattle.ledger_maps.proofs.part.take_at.Goals as goal

-- the entry went away
pub returns-then-is_zero : goal.returns-then-is_zero
returns-then-is_zero g c =
    let same = g.K.PartialEq.eq in
    let m = c.args.part.now in
    let gone = gone_placed same g.met.K.Eq.laws m m c.swap_remove_index.new.self c.args.at c.args.key.now c.lower.new.self c.swap_remove_index.result
    refl c.get_index_mut.ensures.unique c.requires.there c.swap_remove_index.ensures.entry c.swap_remove_index.ensures.updates in
    let had : by_key same m c.args.key.now ≡ Some c.unwrap-kept.result.now =
    kept_at same m m c.args.at c.args.key.now c.get_index_mut.result c.unwrap-kept.result refl c.requires.there
    c.unwrap-kept.ensures c.get_index_mut.ensures.value in record {
      changes = changed_entry same g.met.K.Exact.exact lower lower_none (by_key same m) (by_key same c.swap_remove_index.new.self) c.args.key.now c.args.field c.args.amount None
          gone (lowered_away (by_key same m c.args.key.now) c.unwrap-kept.result.now c.lower.new.self c.args.field c.args.amount c.lower.ensures had (c.if-is_zero.ensures.0 refl));
      tidy = λ tidy. tidy_entry same g.met.K.Exact.exact (by_key same m) (by_key same c.swap_remove_index.new.self) c.args.key.now None gone tidy (λ t at. absurd (cc at));
    }

-- it has the sums that are left
pub returns-else-is_zero : goal.returns-else-is_zero
returns-else-is_zero g c =
    let same = g.K.PartialEq.eq in
    let m = c.args.part.now in
    let put = put_at same g.met.K.Eq.laws m c.args.at c.args.key.now c.lower.new.self c.get_index_mut.ensures.unique c.requires.there in
    let had : by_key same m c.args.key.now ≡ Some c.unwrap-kept.result.now =
    kept_at same m m c.args.at c.args.key.now c.get_index_mut.result c.unwrap-kept.result refl c.requires.there
    c.unwrap-kept.ensures c.get_index_mut.ensures.value in record {
      changes = changed_entry same g.met.K.Exact.exact lower lower_none (by_key same m) (by_key same (with_value_at m c.args.at c.lower.new.self)) c.args.key.now c.args.field c.args.amount
          (Some c.lower.new.self) put (lowered_had (by_key same m c.args.key.now) c.unwrap-kept.result.now c.lower.new.self c.args.field c.args.amount c.lower.ensures had);
      tidy = λ tidy. tidy_put same g.met.K.Exact.exact (by_key same m) (by_key same (with_value_at m c.args.at c.lower.new.self)) c.args.key.now c.lower.new.self
          put tidy (λ zero. absurd (cc (c.if-is_zero.ensures.1 zero)));
    }
