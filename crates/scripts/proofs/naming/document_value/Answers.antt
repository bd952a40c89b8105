-- `scripts::naming::document_value` meets its contract: every list of places is padded with zeros.
use mathlib.Core.Path.{refl}
use Rattle.settings.specs.Values.{settings_of}
use Rattle.scripts.proofs.naming.document_value.Goals as goal

pub returns : goal.returns
unfolding settings_of
returns c = refl
