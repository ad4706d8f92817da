-- Superblocks by which blocks are read alike give the same blocks, the same live pairs and the same stops.
use Rattle.std.proofs.Common.{◌≡◌, ℕ, zero, suc, ◌-◌, ◌==◌, ◌&&◌, List, refl, ap, ◌∙◌}
use Rattle.std.specs.Prelude.{bytes_eq}
use Rattle.verdict.proofs.Truth.{and_parts}
use Rattle.super_reader.specs.declared.Super.{Super}
use Rattle.node_reader.specs.Stored.{Stored, block_in}
use Rattle.node_reader.specs.declared.expect.Expect.{Expect}
use Rattle.records.specs.WalkLaw.{children_in}
use Rattle.tree_laws.specs.Keeping.{last_in, live_at}
use Rattle.tree_laws.specs.Stops.{stops_and, stops_below, stops_or}
use Rattle.tree_laws.specs.Skips.{Anew, Kept}
use Rattle.tree_laws.specs.SupersLaw.{SupersLaw}
use Rattle.tree_laws.proofs.Images.{flat_same, read_alike, same_fsid, visited_same}

module _ (kept : Kept) (anew : Anew) (a b : Super) (stored : Stored) (fsid : a.fsid ≡ b.fsid) where
  stops_one : (first second : List Expect → List Expect) → ((next : List Expect) → first next ≡ second next) → (e : Expect)
      → stops_and kept anew first a stored e ≡ stops_and kept anew second b stored e
  stops_one first second same e =
      ap (λ es. stops_or e es (first (children_in (e.level - 1) e (block_in stored a.fsid e))) (kept e)) (same (anew e))
      ∙ ap (λ es. stops_or e (second (anew e)) es (kept e))
      (same (children_in (e.level - 1) e (block_in stored a.fsid e)) ∙ ap (λ id. second (children_in (e.level - 1) e (block_in stored id e))) fsid)

  stops_same : (level : ℕ) (next : List Expect) → stops_below kept anew level a stored next ≡ stops_below kept anew level b stored next
  unfolding stops_below
  stops_same zero next = refl
  stops_same (suc level) next =
      flat_same (stops_and kept anew (stops_below kept anew level a stored) a stored) (stops_and kept anew (stops_below kept anew level b stored) b stored)
      (stops_one (stops_below kept anew level a stored) (stops_below kept anew level b stored) (stops_same level)) next

pub give_alike : SupersLaw
give_alike a b alike =
    let fsid : a.fsid ≡ b.fsid =
    same_fsid a.fsid b.fsid (and_parts (bytes_eq a.fsid b.fsid) (a.nodesize == b.nodesize && (a.incompat == b.incompat && (a.compat_ro == b.compat_ro && a.devid == b.devid))) alike).0 in
    record {
      comes = λ stored e. visited_same e.level a b stored fsid e;
      lives = λ stored e. ap (λ walk. record (live_at a stored e) { last = last_in walk }) (read_alike a b stored e alike);
      stops = λ kept anew stored e.
          stops_one kept anew a b stored fsid (stops_below kept anew e.level a stored) (stops_below kept anew e.level b stored) (stops_same kept anew a b stored fsid e.level) e;
    }
