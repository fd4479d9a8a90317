-- The laws of key files.
use Rattle.std.specs.Prelude.{◌≡◌, ℕ, List}
use Rattle.std.specs.declared.net.socket_addr.SocketAddr.{SocketAddr}
use Rattle.fw_keys.specs.declared.error.BadLine.{BadLine}
use Rattle.fw_keys.specs.Links.{Links}
use Rattle.fw_keys.specs.KeyFiles.{SpellsHeadKeys, SpellsMeterKeys}
use Rattle.fw_keys.specs.Refusals.{NoHeadKeys, NoMeterKeys}

-- A text is at most one key file of a head end, and none if a line refuses it. So what is written is read back as what it was.
pub record OneHeadFile : Type 0 where
  pub one : (text : List ℕ) (head : ℕ) (file other : Links ℕ) → SpellsHeadKeys text head file → SpellsHeadKeys text head other → file ≡ other
  pub never_both : (text : List ℕ) (head number : ℕ) (why : BadLine) (file : Links ℕ) → NoHeadKeys text head number why → ¬ SpellsHeadKeys text head file

-- the same of a meter
pub record OneMeterFile : Type 0 where
  pub one : (text : List ℕ) (file other : Links SocketAddr) → SpellsMeterKeys text file → SpellsMeterKeys text other → file ≡ other
  pub never_both : (text : List ℕ) (number : ℕ) (why : BadLine) (file : Links SocketAddr) → NoMeterKeys text number why → ¬ SpellsMeterKeys text file
