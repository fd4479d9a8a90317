-- Public vocabulary: the bytes of a journal, and which records they stand for.
use Rattle.std.specs.Prelude.{◌≡◌, ◌≢◌, ◌⊎◌, ⊤, ◌<◌, ◌≤◌, ◌^◌, ℕ, zero, suc, List, [], ◌∷◌, ◌++◌, length, Vec}
use Rattle.std.specs.Int.{w32, to_be_bytes}
use Rattle.std.specs.declared.alloc.Global.{Global}
use Rattle.sha2.specs.Sha256.{sha256}

-- what each journal begins with: FWJ1
abbrev pub mark : List ℕ
mark = 0x46 ∷ 0x57 ∷ 0x4A ∷ 0x31 ∷ []

-- a record without its gate: its length, itself and its digest
abbrev pub body : List ℕ → List ℕ
body entry = to_be_bytes w32 (length entry) ++ (entry ++ sha256 entry)

-- records, each after an open gate
abbrev pub blocks : List (List ℕ) → List ℕ
blocks [] = []
blocks (entry ∷ records) = 1 ∷ (body entry ++ blocks records)

-- a journal of these records up to the gate that is shut
abbrev pub book_front : List (List ℕ) → List ℕ
book_front records = mark ++ blocks records

-- a journal of these records, between two calls
abbrev pub book_bytes : List (List ℕ) → List ℕ
book_bytes records = book_front records ++ 0 ∷ []

-- each is short enough to be written
abbrev pub AreRecords : List (List ℕ) → Type 0
AreRecords [] = ⊤
AreRecords (entry ∷ records) = (length entry < 2 ^ 32) × AreRecords records

-- No open gate stands here. The last byte isn't one, whatever it is: a gate that is being written may be any byte.
abbrev pub IsShut : List ℕ → Type 0
IsShut [] = ⊤
IsShut (gate ∷ []) = ⊤
IsShut (gate ∷ byte ∷ rest) = gate ≢ 1

-- the bytes are a journal of these records, whatever stands from a shut gate on
pub record Stands (bytes : List ℕ) (records : List (List ℕ)) : Type 0 where
  pub fit : AreRecords records
  pub end : List ℕ
  pub split : bytes ≡ book_front records ++ end
  pub shut : IsShut end

-- no record's bytes begin here
abbrev pub IsNoBody : List ℕ → Type 0
IsNoBody bytes = (entry rest : List ℕ) → length entry < 2 ^ 32 → ¬ (bytes ≡ body entry ++ rest)

-- at this offset, after whole records, an open gate stands before what is no record
pub record IsBadRecord (bytes : List ℕ) (offset : ℕ) : Type 0 where
  pub front : List (List ℕ)
  pub fit : AreRecords front
  pub behind : List ℕ
  pub split : bytes ≡ book_front front ++ 1 ∷ behind
  pub offset_is : offset ≡ length (book_front front)
  pub some : 1 ≤ length behind
  pub nothing : IsNoBody behind

-- the bytes don't begin as a journal does
abbrev pub IsNoBook : List ℕ → Type 0
IsNoBook bytes = (rest : List ℕ) → ¬ (bytes ≡ mark ++ rest)

-- the bytes are no journal's, for what stands at this offset
abbrev pub IsBadBook : List ℕ → ℕ → Type 0
IsBadBook bytes offset = ((offset ≡ 0) × IsNoBook bytes) ⊎ IsBadRecord bytes offset

-- the bytes begin as a journal does, and a whole record stands first
pub record HasRecord (bytes : List ℕ) : Type 0 where
  pub first : List ℕ
  pub rest : List ℕ
  pub short : length first < 2 ^ 32
  pub split : bytes ≡ mark ++ 1 ∷ (body first ++ rest)

-- a whole record stands first, behind one byte of any value, and then these bytes
pub record HasBlock (bytes rest : List ℕ) : Type 0 where
  pub gate : ℕ
  pub entry : List ℕ
  pub short : length entry < 2 ^ 32
  pub split : bytes ≡ gate ∷ (body entry ++ rest)

-- so many whole records stand here one after another, each behind one byte of any value, and no further one
abbrev pub HasBlocks : ℕ → List ℕ → Type 0
HasBlocks zero bytes = (rest : List ℕ) → ¬ HasBlock bytes rest
HasBlocks (suc n) bytes = (rest : List ℕ) × HasBlock bytes rest × HasBlocks n rest

-- in a journal of these bytes this stands from the shut gate on, with so many whole records one after another
pub record Drops (bytes rest : List ℕ) (count : ℕ) : Type 0 where
  pub records : List (List ℕ)
  pub stands : Stands bytes records
  pub rest_is : rest ≡ stands.end
  pub counted : HasBlocks count rest

-- what the vectors hold
abbrev pub contents_of : List (Vec ℕ Global) → List (List ℕ)
contents_of [] = []
contents_of (v ∷ vs) = v.items ∷ contents_of vs
