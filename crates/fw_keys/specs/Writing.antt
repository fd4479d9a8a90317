-- Key files as they are written: bytes in lower-case hexadecimal, and a line feed (10) behind each line.
use Rattle.std.specs.Prelude.{◌≡◌, ℕ, List, [], ◌∷◌, ◌++◌, All, flat_map}
use Rattle.std.specs.declared.net.socket_addr.SocketAddr.{SocketAddr}
use Rattle.std.specs.Net.Socket.{socket_flowinfo}
use Rattle.hex.specs.Hex.{encode_lower}
use Rattle.fw_text.specs.Laws.{IsLine}
use Rattle.fw_keys.specs.declared.entry.Entry.{Entry}
use Rattle.fw_keys.specs.declared.entry.LinkKeys.{LinkKeys}

-- the line of a link whose other end has this name
abbrev pub link_line : List ℕ → LinkKeys → List ℕ
link_line name keys =
    name ++ 44 ∷ encode_lower keys.title ++ 44 ∷ encode_lower keys.encryption ++ 44 ∷ encode_lower keys.authentication ++ 10 ∷ []

-- the lines of these links, where names have these texts
abbrev pub links_text : {N : Type 0} → (N → List ℕ) → List (Entry N) → List ℕ
links_text {N} text entries = flat_map (λ (entry : Entry N). link_line (text entry.end) entry.keys) entries

-- a text has no line feed and names this end, so that it is read back where it is written
pub record ReadsBack {N : Type 0} (Names : List ℕ → N → Type 0) (text : List ℕ) (end : N) : Type 0 where
  pub plain : IsLine text
  pub named : Names text end

-- each of these addresses has no flow information, which no text of one shows
abbrev pub AreShown : List (Entry SocketAddr) → Type 0
AreShown entries = All (λ (entry : Entry SocketAddr). socket_flowinfo entry.end ≡ 0) entries

-- the first line of a meter's file
abbrev pub title_line : List ℕ → List ℕ
title_line title = encode_lower title ++ 10 ∷ []
