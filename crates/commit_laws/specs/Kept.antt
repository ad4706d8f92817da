-- Of the kept items of an image those that post otherwise in a new context, and the others.
use Rattle.std.specs.Prelude.{◌≡◌, ℕ, Bool, not, List, [], ◌++◌, map, ◌||◌, ◌==◌, if◌then◌else◌}
use Rattle.std.specs.List.{All, filter}
use Rattle.std.specs.List.Sorted.{IsPermutation}
use Rattle.verdict.specs.declared.kinds.TheConstants.{EXTENT_ITEM, METADATA_ITEM}
use Rattle.accounts.specs.Context.{Context}
use Rattle.accounts.specs.declared.postings.Posting.{Posting}
use Rattle.change_records.specs.Affected.{AreAffected, context_with}
use Rattle.change_records.specs.declared.item_ref.ItemRef.{ItemRef}
use Rattle.extent_items.specs.ExtentRow.{ExtentFields}
use Rattle.live_index.specs.Pairs.{Pairs}
use Rattle.records.specs.Part.{Located}
use Rattle.records.specs.Part.Part.{ExtentPart}
use Rattle.records.specs.Postings.{postings_of}
use Rattle.records.specs.SpacePostings.{rest_postings}
use Rattle.verdict.specs.declared.place.Chunk.{Chunk}
use Rattle.commit_laws.specs.Blocks.{HasOwnName}
use Rattle.commit_laws.specs.Items.{ItemsStand}
use Rattle.commit_laws.specs.Paired.{name_of}

-- the items that are not named
abbrev pub kept_items : (ItemRef → Bool) → List Located → List Located
kept_items named items = filter (λ one. not (named (name_of one))) items

-- an extent of which only the key is known
abbrev pub extent_at : ItemRef → ExtentFields
extent_at at = record { key = at.key; refs = 0; generation = 0; flags = 0; references = [] }

-- What the context decides of the postings of an item but for those to sectors: of an extent, what it takes of its group and of which class
-- that is; its key says it. Of others nothing.
abbrev pub placed_postings : Context → ItemRef → List Posting
placed_postings context at =
    if at.key.kind == EXTENT_ITEM || at.key.kind == METADATA_ITEM then rest_postings context at.tree (ExtentPart (extent_at at)) else []

-- Some kept items post otherwise in another context, and these are their names, each once; the others post the same. What those that post
-- otherwise post but to sectors, by the context, their names say.
pub record AreFound (before after : Context) (kept : List Located) (refs : List ItemRef) : Type 0 where
  pub found : List Located
  pub staying : List Located
  pub all : IsPermutation kept (found ++ staying)
  pub names : map name_of found ≡ refs
  pub same : All (λ one. postings_of before one ≡ postings_of after one) staying
  pub placed : All (λ one. (context : Context) → rest_postings context one.tree one.part ≡ placed_postings context (name_of one)) found

-- The names of all kept items that post otherwise, by tree and key, say just what changes of the kept items' postings.
abbrev pub FoundLaw : Type 0
FoundLaw = (pairs : Pairs) (before after : List Chunk) (nodesize : ℕ) (free fresh : ℕ → ℕ → Bool) (named : ItemRef → Bool)
    (items : List Located) (refs : List ItemRef)
    → ItemsStand nodesize items → All (HasOwnName pairs) items
    → AreAffected pairs (context_with before nodesize free) (context_with after nodesize fresh) named items refs
    → AreFound (context_with before nodesize free) (context_with after nodesize fresh) (kept_items named items) refs
