-- Which call a letter tells.
-- Assumes nothing.
use Rattle.std.specs.Prelude.{ℕ, ◌≡◌, ◌≢◌}
use Rattle.scripts.specs.declared.naming.Call.{Call}
use Rattle.scripts.specs.declared.naming.Call.TheVariants.{Fresh, Attach, Detach, Request, Reply, Tick, LinkLost, Cursor, Split, Read, Write}

-- none of the letters that tell a call
abbrev pub IsOther : ℕ → Type 0
IsOther n = (n ≢ 102) × (n ≢ 97) × (n ≢ 100) × (n ≢ 81) × (n ≢ 80) × (n ≢ 116) × (n ≢ 99) × (n ≢ 115) × (n ≢ 65) × (n ≢ 119)

-- each call has its letter; any other letter tells of a lost link
abbrev pub Tells : ℕ → Call → Type 0
Tells n Fresh = n ≡ 102
Tells n Attach = n ≡ 97
Tells n Detach = n ≡ 100
Tells n Request = n ≡ 81
Tells n Reply = n ≡ 80
Tells n Tick = n ≡ 116
Tells n LinkLost = IsOther n
Tells n Cursor = n ≡ 99
Tells n Split = n ≡ 115
Tells n Read = n ≡ 65
Tells n Write = n ≡ 119
