use Rattle.std.proofs.lemmas.Bool.{ltb-true}
use Rattle.chunk_map.proofs.Ordered.{sorted_found, clear_in_front}
use Rattle.chunk_map.proofs.rules.sorted_fault.Goals as goal

pub returns-in-Some : goal.returns-in-Some
returns-in-Some c = sorted_found c.args.chunks.now c.loop-place.place _ c.args.end _ _ c.loop-place-test.true c.loop-place.invariant (c.in-Some.ensures {u = tt})

pub fault_behind-requires : goal.fault_behind-requires
fault_behind-requires c = λ on. clear_in_front c.args.chunks.now c.args.front c.loop-place.place _ c.requires (ltb-true _ _ on) c.loop-place-test.true
