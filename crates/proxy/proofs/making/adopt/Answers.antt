-- `proxy::making::adopt` meets its contract: what is written keeps the value.
use Rattle.settings.specs.Values.{value_of}
use Rattle.settings.proofs.ValidLaws.{settings_valid_exactly}
use Rattle.proxy.proofs.MakingLaws.{kept_settings_lem}
use Rattle.proxy.proofs.making.adopt.Goals as goal

pub fill_words-requires : goal.fill_words-requires
fill_words-requires c = let v = (settings_valid_exactly c.args.from.now).0 c.requires in record { tags_le_most_tags = v.few; by_index = v.each }

pub returns : goal.returns
unfolding value_of
returns c =
    let k = kept_settings_lem c.args.from.now _ c.requires c.fill_words.ensures in
    record { kept = k.0; settled = k.1 }
