use Rattle.std.proofs.Common.{◌≡◌, ◌++◌, take, drop}
use Rattle.image_maker.specs.Sizes.{ArePointers}
use Rattle.image_maker.specs.Blocks.{pointers_bytes}
use Rattle.image_maker.proofs.node.put_pointers.Given as goal

-- what stands and what is left make the whole
abbrev pub invariant-loop-pointer : goal.invariant-loop-pointer
invariant-loop-pointer l =
    (ArePointers (take l.pointer-index l.pointers))
    × (l.fields ++ pointers_bytes (drop l.pointer-index l.pointers) ≡ l.fn.fields ++ pointers_bytes l.pointers)
