-- Key files with new keys.
use Rattle.std.specs.Prelude.{ℕ, List, [], ◌∷◌, take, drop}
use Rattle.std.specs.declared.net.socket_addr.SocketAddr.{SocketAddr}
use Rattle.fw_keys.specs.declared.entry.Entry.{Entry}
use Rattle.fw_keys.specs.Links.{Links}
use Rattle.fw_keys.specs.Titles.{meter_title}

-- a link with this meter: its keys are these random bytes, the encryption key the first 16
abbrev pub new_entry : ℕ → List ℕ → Entry ℕ
new_entry meter random = record {
  end = meter;
  keys = record { title = meter_title meter; encryption = take 16 random; authentication = drop 16 random };
}

-- the file of the other end of a link, whose own end has this title and is a head end at this address
abbrev pub other_file : List ℕ → Entry ℕ → SocketAddr → Links SocketAddr
other_file own entry address = record {
  own = entry.keys.title;
  entries = record {
    end = address;
    keys = record { title = own; encryption = entry.keys.encryption; authentication = entry.keys.authentication };
  } ∷ [];
}
