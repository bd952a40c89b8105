-- A device of its fields, the device that is all zeros, and how many bytes a device has.
-- Assumes nothing.
use Rattle.std.specs.Prelude.{ℕ, List, replicate}
use Rattle.numbers.specs.Numbers.{places, party_places, most_tags, cache_numbers, cache_bytes}
use Rattle.proxy.specs.declared.Device.{Device}

-- a device of its fields
abbrev pub device : (ids asked callers deadlines counts clients originals : List ℕ) (top cursor attached clock timeout join tag_count : ℕ) (tag_words cache shown : List ℕ) → Device
device ids asked callers deadlines counts clients originals top cursor attached clock timeout join tag_count tag_words cache shown =
    record {
      table = record {
        ids = ids;
        asked = asked;
        callers = callers;
        deadlines = deadlines;
        counts = counts;
        clients = clients;
        originals = originals;
        top = top;
        cursor = cursor;
      };
      attached = attached;
      clock = clock;
      settings = record { timeout = timeout; join = join; tag_count = tag_count; tag_words = tag_words };
      cache = record { numbers = cache; shown = shown };
    }

-- the device that is all zeros
abbrev pub zeros : Device
zeros = device (replicate places 0) (replicate places 0) (replicate places 0) (replicate places 0) (replicate places 0) (replicate party_places 0) (replicate party_places 0) 0 0 0 0 0 0 0 (replicate most_tags 0) (replicate cache_numbers 0) (replicate cache_bytes 0)

-- how many bytes a device has
abbrev pub state_size : ℕ
state_size = 50224
