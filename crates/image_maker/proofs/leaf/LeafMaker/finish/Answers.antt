use Rattle.std.proofs.Common.{◌≡◌, length, ap, ◌∙◌, sym, subst, arith, rules}
use Rattle.std.proofs.lemmas.Result.{IfOk-weaker}
use Rattle.image_maker.specs.Accepted.{IsLeafOf}
use Rattle.image_maker.specs.Blocks.{leaf_bytes}
use Rattle.image_maker.specs.Maker.{items_of, nodesize_of, header_of}
use Rattle.image_maker.proofs.ReadBack.{leaf_is, leaf_long}
use Rattle.image_maker.proofs.leaf.LeafMaker.finish.Goals as goal

pub returns-clause-long : goal.returns-clause-long
returns-clause-long c =
    let h = header_of c.args.self in
    let size = nodesize_of c.args.self in
    let items = items_of c.args.self in
    IfOk-weaker c.block.result (λ b. b ≡ leaf_bytes h size items) (λ b. length b ≡ size)
    (λ b is. ap length is ∙ leaf_long h size items (record { fsid = search rules; address = omega arith; owner = omega arith; generation = omega arith }) (omega (arith, c.args.self.sizes, c.args.self.inside)))
    c.block.ensures

pub returns-clause-reads : goal.returns-clause-reads
returns-clause-reads c =
    let h = header_of c.args.self in
    let size = nodesize_of c.args.self in
    let items = items_of c.args.self in
    IfOk-weaker c.block.result (λ b. b ≡ leaf_bytes h size items) (λ b. IsLeafOf h items b)
    (λ b is. subst (λ x. IsLeafOf h items x) (sym is) (leaf_is h size items (record { fsid = search rules; address = omega arith; owner = omega arith; generation = omega arith }) c.args.self.leaf (omega arith) (omega (arith, c.args.self.sizes, c.args.self.inside)) c.args.self.keys)) c.block.ensures
