-- `requesting::serve` meets its contract: what is cached is shown where the request hits a place, and else it comes to what it does without a cache.
use mathlib.Core.Path.{◌≡◌, refl, ap, sym, ◌∙◌}
use mathlib.Core.Option.{none-ne-some}
use Rattle.pdu.specs.declared.What.{What}
use Rattle.pdu.proofs.RequestLaws.{legal-passed}
use Rattle.cache.proofs.CacheLaws.{hit_found}
use Rattle.caching.specs.Kept.{cache_of}
use Rattle.requesting.specs.inner.Parts.{Asks}
use Rattle.requesting.proofs.SeatLaws.{asks_lem, word_sought, none_found, hit_there, missed-next}
use Rattle.requesting.proofs.serve.Goals.{After-word_of-word}
use Rattle.requesting.proofs.serve.Goals as goal

-- the word is that of what the request asks
asks : (c : After-word_of-word) → Asks c.args.frame.now c.word_of-word.result
asks c = asks_lem c.word_of-word.ensures c.what_asked-what.ensures

pub hit_place-requires : goal.hit_place-requires
hit_place-requires c = (word_sought (asks (goal.at.hit_place-requires c).After-word_of-word), c.requires.sound.cache.bounded)

pub show_cached-requires-clause-sound_cache : goal.show_cached-requires-clause-sound_cache
show_cached-requires-clause-sound_cache c =
    let cache = c.args.device.now.cache in
    let low = c.in-Some.ensures.within in
    let same = c.in-Some.ensures.hit cache.shown c.requires.sound.cache in
    let there = hit_found (cache_of cache.numbers cache.shown) c.args.device.now.clock _ (rw same at low) in
    (c.requires.sound.cache, low, λ h. none-ne-some _ (sym (rw same at h) ∙ there.1))

pub returns-in-Some : goal.returns-in-Some
returns-in-Some c = record {
  came =
      hit_there c.args.device.now.clock (asks (goal.at.returns-in-Some c).After-word_of-word) c.requires.sound.table c.requires.sound.cache c.in-Some.ensures.hit c.args.client c.args.out.now
      c.in-Some.ensures.within c.show_cached.ensures;
  attached = refl;
  clock = refl;
  settings = refl;
  shown = refl;
}

pub miss-requires : goal.miss-requires
miss-requires c =
    let admitted = c.requires.admitted in
    let same : c.what_asked-what.result.asked ≡ c.args.asked = ap (λ (w : What). w.asked) c.what_asked-what.ensures.0 ∙ sym (legal-passed c.args.frame.now c.args.asked admitted.legal).asks in
    record { sound = c.requires.sound; admitted = rw same admitted; asks = (asks (goal.at.miss-requires c).After-word_of-word, c.what_asked-what.ensures.0) }

pub returns : goal.returns
returns c =
    let m = c.miss.ensures in
    record {
      came =
          missed-next c.args.device.now.clock (asks (goal.at.returns c).After-word_of-word) c.requires.sound.table c.requires.sound.cache c.hit_place.ensures.hit c.args.client c.args.out.now
          (none_found _ _ c.in_default.not-Some) m.came;
      attached = m.attached;
      clock = m.clock;
      settings = m.settings;
      shown = m.shown;
    }
