-- What an image holds is what its walks come to.
use Rattle.std.proofs.Common.{refl}
use Rattle.records.specs.Contents.{Contents, contents}
use Rattle.tree_laws.proofs.Treed.{steps_of}
use Rattle.commit_laws.specs.Same.{HeldLaw, records_of}

pub holds : HeldLaw
unfolding contents records_of
holds image whole is =
    let s = steps_of image whole is in
    let held : Contents = record { sup = whole.sup; chunks = whole.chunks; roots = s.roots; records = records_of whole } in (
      held,
      rw (s.sup_is, s.arrays, s.chunks_are, s.items, s.records) refl,
      record { sup = refl; chunks = refl; roots = s.items; records = refl },
    )
