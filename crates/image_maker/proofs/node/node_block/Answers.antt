use Rattle.std.proofs.Common.{◌≡◌, length, ap, ◌∙◌, Ok, Err, Result, sym, subst, arith, rules}
use Rattle.std.specs.Result.{IfOk, OnOk}
use Rattle.image_maker.specs.Sizes.{ArePointers}
use Rattle.std.proofs.lemmas.Result.{IfOk-weaker}
use Rattle.image_maker.specs.Accepted.{IsNodeOf}
use Rattle.image_maker.specs.Blocks.{node_bytes, node_header}
use Rattle.image_maker.proofs.NodeBack.{node_is, node_long}
use Rattle.image_maker.proofs.node.node_block.Goals as goal

both_if_ok : {T E : Type 0} (r : Result T E) (P : T → Type 0) (Q : Type 0) → IfOk r P → OnOk r Q → IfOk r (λ x. P x × Q)
both_if_ok (Ok x) P Q p q = (p, q)
both_if_ok (Err e) P Q p q = tt

pub returns-clause-long : goal.returns-clause-long
returns-clause-long c =
    let h = node_header c.args.fsid.now c.args.address c.args.owner c.args.generation c.args.level in
    let ps = c.args.pointers.now in
    IfOk-weaker c.block_with.result (λ b. b ≡ node_bytes h c.args.nodesize ps) (λ b. length b ≡ c.args.nodesize)
    (λ b is. ap length is ∙ node_long h c.args.nodesize ps (record { fsid = search rules; address = omega arith; owner = omega arith; generation = omega arith }) (omega arith))
    c.block_with.ensures.exact

pub returns-clause-reads : goal.returns-clause-reads
returns-clause-reads c =
    let h = node_header c.args.fsid.now c.args.address c.args.owner c.args.generation c.args.level in
    let ps = c.args.pointers.now in
    IfOk-weaker c.block_with.result (λ b. (b ≡ node_bytes h c.args.nodesize ps) × ArePointers ps) (λ b. IsNodeOf h ps b)
    (λ b is. subst (λ x. IsNodeOf h ps x) (sym is.0)
    (node_is h c.args.nodesize ps (record { fsid = search rules; address = omega arith; owner = omega arith; generation = omega arith }) (omega arith) (omega arith) is.1))
    (both_if_ok c.block_with.result (λ b. b ≡ node_bytes h c.args.nodesize ps) (ArePointers ps) c.block_with.ensures.exact c.block_with.ensures.sizes)
