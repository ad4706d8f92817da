-- What is known of a tree is known of it by another superblock by which blocks are read alike.
use Rattle.std.proofs.Common.{◌≡◌, ℕ, ◌==◌, Bool, true, ◌&&◌, List, [], ◌∷◌, inl, inr, ap, subst, ◌∙◌}
use Rattle.std.specs.Prelude.{Some, bytes_eq}
use Rattle.std.specs.List.{AllByRecursion, list_any}
use Rattle.std.specs.Result.{IsOk}
use Rattle.verdict.proofs.Lists.{all_map}
use Rattle.verdict.proofs.Truth.{and_parts}
use Rattle.super_reader.specs.declared.Super.{Super}
use Rattle.live_index.specs.Pairs.{Pairs}
use Rattle.live_index.specs.declared.live.Live.{Live}
use Rattle.node_reader.specs.Stored.{Stored}
use Rattle.node_reader.specs.declared.expect.Expect.{Expect}
use Rattle.records.specs.Walk.{Records}
use Rattle.records.specs.WalkLaw.{visited}
use Rattle.tree_laws.specs.Keeping.{AreListed, AreMarked, Comes, IsKnown, Marks, OneOf, Stands, Under, comes_to, first_in, last_in, live_at, owner_in, starts_at}
use Rattle.tree_laws.specs.Shared.{are_read_alike}
use Rattle.tree_laws.proofs.Images.{read_alike, same_fsid, visited_same}
use Rattle.tree_laws.proofs.Sharing.{if_some_map}

one_map : (P Q : Expect → Type 0) (es : List Expect) → ((v : Expect) → P v → Q v) → OneOf P es → OneOf Q es
one_map P Q [] f one = elim one [ ]
one_map P Q (e ∷ es) f (inl here) = inl (f e here)
one_map P Q (e ∷ es) f (inr later) = inr (one_map P Q es f later)

abbrev pub live_with : Stored → Expect → Records → Live
live_with stored v walk = record {
  tree = v.tree;
  address = v.address;
  level = v.level;
  generation = v.generation;
  first = first_in (stored v.address);
  last = last_in walk;
  parent = v.parent;
  owner = owner_in (stored v.address);
}

module _ (a b : Super) (alike : are_read_alike a b ≡ true) where
  visited_alike : (stored : Stored) (e : Expect) → visited a stored e ≡ visited b stored e
  visited_alike stored e =
      visited_same e.level a b stored
      (same_fsid a.fsid b.fsid
      (and_parts (bytes_eq a.fsid b.fsid)
      (a.nodesize == b.nodesize && (a.incompat == b.incompat && (a.compat_ro == b.compat_ro && a.devid == b.devid))) alike).0)
      e

  live_alike : (stored : Stored) (v : Expect) → live_at a stored v ≡ live_at b stored v
  live_alike stored v = ap (live_with stored v) (read_alike a b stored v alike)

  comes_alike : (P Q : Expect → Type 0) (stored : Stored) (root : Expect) → ((v : Expect) → P v → Q v) → Comes P a stored root → Comes Q b stored root
  comes_alike P Q stored root f comes = record {
    fine = subst (λ (walk : Records). IsOk walk) (read_alike a b stored root alike) comes.fine;
    each = subst (AllByRecursion Q) (visited_alike stored root) (all_map P Q (visited a stored root) f comes.each);
  }

  pub stands_alike : (pairs : Pairs) (stored : Stored) (root : Expect) → Stands pairs a stored root → Stands pairs b stored root
  stands_alike pairs stored root stands = record {
    each = comes_alike (λ v. pairs v.tree v.address ≡ Some (live_at a stored v)) (λ v. pairs v.tree v.address ≡ Some (live_at b stored v)) stored root
        (λ v h. h ∙ ap (λ (live : Live). Some live) (live_alike stored v)) stands.each;
    only = λ address.
        if_some_map (pairs root.tree address) (λ live. OneOf (IsKnown a stored root.tree address live) (visited a stored root))
        (λ live. OneOf (IsKnown b stored root.tree address live) (visited b stored root))
        (λ live one. subst (OneOf (IsKnown b stored root.tree address live)) (visited_alike stored root)
        (one_map (IsKnown a stored root.tree address live) (IsKnown b stored root.tree address live) (visited a stored root)
        (λ v h. record { tree_is = h.tree_is; address_is = h.address_is; live_is = h.live_is ∙ live_alike stored v }) one))
        (stands.only address);
  }

  pub marked_alike : (marked : Marks) (test : ℕ → Bool) (stored : Stored) (root : Expect) → AreMarked marked test a stored root
      → AreMarked marked test b stored root
  marked_alike marked test stored root marks =
      comes_alike (λ v. marked v.tree v.address ≡ comes_to test a stored v) (λ v. marked v.tree v.address ≡ comes_to test b stored v) stored root
      (λ v h. h ∙ ap (list_any (λ (w : Expect). test w.address)) (visited_alike stored v)) marks

  pub listed_alike : (under : Under) (moving : Marks) (stored : Stored) (root : Expect) → AreListed under moving a stored root
      → AreListed under moving b stored root
  listed_alike under moving stored root lists =
      comes_alike (λ v. under v.tree v.address ≡ starts_at v.level (moving v.tree) (stored v.address))
      (λ v. under v.tree v.address ≡ starts_at v.level (moving v.tree) (stored v.address)) stored root (λ v h. h) lists
