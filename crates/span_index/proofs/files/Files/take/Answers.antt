use Rattle.std.proofs.Common.{false, refl, sym, ◌∙◌}
use Rattle.span_index.proofs.FileLaws.{file_kept, file_put}
use Rattle.span_index.proofs.files.Files.take.Goals as goal

pub returns-in-Some : goal.returns-in-Some
returns-in-Some c = file_put c.args.self.now.places c.remove.new.self _ _ false c.args.span.now _ refl refl (sym c.file_of.ensures ∙ c.in-Some.is) c.remove.ensures.updates.0

pub returns-in_default : goal.returns-in_default
returns-in_default c = file_kept c.args.self.now false c.args.span.now (sym c.file_of.ensures ∙ c.in_default.is)
