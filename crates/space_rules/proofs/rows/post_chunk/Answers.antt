use Rattle.std.proofs.Common.{◌≡◌, [], ◌∷◌, map, ap, sym, refl, rules}
use Rattle.volume_items.specs.ChunkItems.{fields_in, stripes_left}
use Rattle.accounts.specs.Kinds.{group, stripe}
use Rattle.accounts.proofs.Behind.{left_all, left_cut, left_none, left_rest, posts_cut}
use Rattle.records.specs.SpacePostings.{chunk_postings}
use Rattle.accounts.specs.Lent.{to}
use Rattle.space_rules.proofs.rows.post_chunk.Goals as goal

pub returns-in_err-put : goal.returns-in_err-put
returns-in_err-put g c = posts_cut g.met.P.Poster.passes _ (rw c.group-group.ensures at (rw c.to.ensures at c.put.ensures)) (search rules) c.from_residual.ensures.0

pub loop-stripe-init : goal.loop-stripe-init
loop-stripe-init g c =
    let item = fields_in c.args.item.now in
    let own = to (group item.key.offset item.length item.class) 1 1 in
    let each = map (λ one. to (stripe item.key.offset one.devid one.physical item.length) 0 1) in
    let all : stripes_left c.into_iter-stripe-iterator.result ≡ item.stripes = cc in
    left_rest {left = chunk_postings item} {first = own ∷ []} {rest = each (stripes_left c.into_iter-stripe-iterator.result)}
    g.met.P.Poster.passes (left_all refl) (ap (λ stripes. own ∷ each stripes) (sym all))
    (rw c.group-group.ensures at (rw c.to.ensures at c.put.ensures)) (search rules)

pub loop-stripe-preserved : goal.loop-stripe-preserved
loop-stripe-preserved g c =
    let each = map (λ one. to (stripe c.args.item.now.key.offset one.devid one.physical c.args.item.now.length) 0 1) in
    left_rest g.met.P.Poster.passes c.loop-stripe.invariant (ap each c.in-Some.ensures.steps)
    (rw c.stripe-stripe.ensures at (rw c.to-in-loop-stripe.ensures at c.put-in-loop-stripe.ensures)) (search rules)

pub returns-in_err-put-2 : goal.returns-in_err-put-2
returns-in_err-put-2 g c =
    let each = map (λ one. to (stripe c.args.item.now.key.offset one.devid one.physical c.args.item.now.length) 0 1) in
    left_cut g.met.P.Poster.passes _ c.loop-stripe.invariant (ap each c.in-Some.ensures.steps)
    (rw c.stripe-stripe.ensures at (rw c.to-in-loop-stripe.ensures at c.put-in-loop-stripe.ensures)) (search rules) c.from_residual-in_err-put-2.ensures.0

pub returns : goal.returns
returns g c = left_none g.met.P.Poster.passes c.loop-stripe.invariant (ap (map _) c.in-None.ensures.steps.0)
