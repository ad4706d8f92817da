use Rattle.std.proofs.Common.{◌≡◌, ap, rules, sym, subst, ◌∙◌}
use Rattle.std.specs.Prelude.{Some, None}
use Rattle.std.proofs.Math.Path.{fun_ext}
use Rattle.ledger_maps.specs.Entries.{by_key}
use Rattle.ledger_keys.specs.Kept.{kept_sum, sums_at}
use Rattle.ledger_keys.specs.LongPlace.{is_same_long}
use Rattle.ledger_keys.specs.LongPlaceLaws.{own_long}
use Rattle.ledger_keys.specs.Shifts.{Posted, Rests}
use Rattle.ledger_keys.specs.Side.{IsCounted, is_same_side, side_of}
use Rattle.verdict.proofs.Answers.{on_err}
use Rattle.ledger_keys.proofs.NameLaws.{own_side}
use Rattle.ledger_maps.proofs.NamesLaws.{counted_put, entries_posted, entries_rest}
use Rattle.ledger_keys.proofs.SideLaws.{shifted_counts}
use Rattle.ledger_maps.proofs.name_part.post_to.Goals as goal

-- the entry stood there
pub returns-in_ok-full-in-Occupied-clause-ok : goal.returns-in_ok-full-in-Occupied-clause-ok
returns-in_ok-full-in-Occupied-clause-ok c =
    let had : by_key is_same_long c.args.map.now c.args.name.now.place ≡ Some c.into_mut-kept.result.now = search rules in
    entries_posted c.args.map.now.entries _ c.args.name.now.place (Some c.post.new.self) (search rules) c.args.may_begin c.args.name.now.side c.args.field c.args.amount c.in_ok-full-in-Occupied.full
    (subst (λ o. Posted is_same_side c.args.may_begin c.args.name.now.side c.args.field c.args.amount (side_of (sums_at o)) (side_of (kept_sum c.post.new.self)) c.in_ok-full-in-Occupied.full)
    (sym had) c.in_ok-full-in-Occupied.ensures.ok)

pub returns-in_err-full-in-Occupied-clause-err : goal.returns-in_err-full-in-Occupied-clause-err
returns-in_err-full-in-Occupied-clause-err c =
    let had : by_key is_same_long c.args.map.now c.args.name.now.place ≡ Some c.into_mut-kept.result.now = search rules in
    on_err _ (entries_rest c.args.map.now.entries _ c.args.name.now.place (Some c.post.new.self) (search rules)
    (subst (λ o. Rests (side_of (sums_at o)) (side_of (kept_sum c.post.new.self))) (sym had) c.in_err-full-in-Occupied.ensures.err))

-- there stood none
pub returns-in-Ok-Some-clause-ok : goal.returns-in-Ok-Some-clause-ok
returns-in-Ok-Some-clause-ok c =
    let none : by_key is_same_long c.args.map.now c.args.name.now.place ≡ None = search rules in
    let same : kept_sum c.no_name-kept.result ≡ sums_at (by_key is_same_long c.args.map.now c.args.name.now.place) =
    fun_ext (λ n. c.no_name-kept.ensures n ∙ ap (λ o. sums_at o n) (sym none)) in
    let posted = subst (Posted is_same_side c.args.may_begin c.args.name.now.side c.args.field c.args.amount (side_of (kept_sum c.no_name-kept.result)) (side_of (kept_sum c.post-in-Vacant.new.self)))
    c.in-Ok-Some.field-0-is c.in-Ok-Some.ensures.ok in
    entries_posted c.args.map.now.entries _ c.args.name.now.place (Some c.post-in-Vacant.new.self) (search rules) c.args.may_begin c.args.name.now.side c.args.field c.args.amount (Some c.in-Ok-Some.full)
    (subst (λ f. Posted is_same_side c.args.may_begin c.args.name.now.side c.args.field c.args.amount (side_of f) (side_of (kept_sum c.post-in-Vacant.new.self)) (Some c.in-Ok-Some.full))
    same posted)

pub returns-in-Ok-Some-clause-counted : goal.returns-in-Ok-Some-clause-counted
returns-in-Ok-Some-clause-counted c =
    let posted = subst (Posted is_same_side c.args.may_begin c.args.name.now.side c.args.field c.args.amount (side_of (kept_sum c.no_name-kept.result)) (side_of (kept_sum c.post-in-Vacant.new.self)))
    c.in-Ok-Some.field-0-is c.in-Ok-Some.ensures.ok in
    λ counted. counted_put (by_key is_same_long c.args.map.now) _ c.args.name.now.place (Some c.post-in-Vacant.new.self) (search rules) (own_long c.args.name.now.place) counted
    (λ k at. let e : c.post-in-Vacant.new.self ≡ k = cc at in subst (λ x. IsCounted (kept_sum x)) e
    (shifted_counts (kept_sum c.no_name-kept.result) (kept_sum c.post-in-Vacant.new.self) c.args.name.now.side c.args.field c.args.amount posted.0
    c.requires.named c.requires.more (own_side c.args.name.now.side)))
