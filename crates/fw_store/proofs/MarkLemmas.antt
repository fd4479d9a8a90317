-- The bytes of marks: those of the first blocks, and those of the others.
use Rattle.std.proofs.Common.{◌≡◌, ℕ, ◌+◌, ◌-◌, ◌*◌, ◌%◌, ◌<◌, ◌≤◌, Bool, false, cond, get_or, List, [], ◌∷◌, ◌++◌, length, take, drop, replicate, zero, suc, refl, sym, ap, ◌∙◌, inl, inr, arith, zero-add, append-nil, length-append, length-drop}
use Rattle.std.proofs.Math.Seq.{take-append-add}
use Rattle.std.proofs.lemmas.Bool.{cases_lt}
use Rattle.std.proofs.lemmas.List.{get_or-take, length-take, length-take-le, length-replicate, drop-drop, drop-take, take_all, take_at, drop_at, take-append-drop, take-append-le, take-take, take-replicate}
use Rattle.std.proofs.lemmas.Grind.{flat_map-append}
use Rattle.fw_axdr.specs.Bits.{byte_bits, bits, bytes_for, byte_of, packed_into, packed}
use Rattle.fw_axdr.specs.Laws.{BitsPacked}
use Rattle.fw_blocks.specs.Cuts.{max_blocks}
use Rattle.fw_blocks.specs.Members.{all_marks, resized_marks}
use Rattle.fw_store.specs.Versions.{first_limit, block_limit, header_size}
use Rattle.fw_store.specs.declared.version.HeaderVersion.{HeaderVersion}
use Rattle.fw_store.specs.declared.version.HeaderVersion.TheVariants.{One, Two}

-- ---- bits that are packed into bytes in two parts

-- what a bit adds to its byte
abbrev worth_of : List Bool → ℕ → ℕ → ℕ
worth_of bs i worth = cond (get_or bs i false) worth 0

worth_of-take : (n : ℕ) (bs : List Bool) (i worth : ℕ) → i < n → worth_of (take n bs) i worth ≡ worth_of bs i worth
worth_of-take n bs i worth below = ap (λ (b : Bool). cond b worth 0) (get_or-take n bs i false below)

-- a byte is that of its eight bits
byte_of-take : (n : ℕ) (bs : List Bool) → 8 ≤ n → byte_of (take n bs) ≡ byte_of bs
byte_of-take n bs many =
    let e0 = worth_of-take n bs 0 128 (omega arith) in
    let e1 = worth_of-take n bs 1 64 (omega arith) in
    let e2 = worth_of-take n bs 2 32 (omega arith) in
    let e3 = worth_of-take n bs 3 16 (omega arith) in
    let e4 = worth_of-take n bs 4 8 (omega arith) in
    let e5 = worth_of-take n bs 5 4 (omega arith) in
    let e6 = worth_of-take n bs 6 2 (omega arith) in
    let e7 = worth_of-take n bs 7 1 (omega arith) in
    λ i. e0 i + e1 i + e2 i + e3 i + e4 i + e5 i + e6 i + e7 i

-- N bytes are those of 8 x N bits
packed_into-take : (k : ℕ) (bs : List Bool) (n : ℕ) → 8 * k ≤ n → packed_into k (take n bs) ≡ packed_into k bs
packed_into-take zero bs n many = refl
packed_into-take (suc k) bs n many =
    let split : n ≡ 8 + (n - 8) = omega arith in
    let rest : drop 8 (take n bs) ≡ take (n - 8) (drop 8 bs) = ap (λ (m : ℕ). drop 8 (take m bs)) split ∙ drop-take 8 (n - 8) bs in
    let first = byte_of-take n bs (omega arith) in
    let others = ap (packed_into k) rest ∙ packed_into-take k (drop 8 bs) (n - 8) (omega arith) in
    λ i. first i ∷ others i

packed_into-add : (k n m : ℕ) (bs : List Bool) → m ≡ k + n → packed_into m bs ≡ packed_into k bs ++ packed_into n (drop (8 * k) bs)
packed_into-add zero n m bs e = ap (λ (j : ℕ). packed_into j bs) (e ∙ zero-add n)
packed_into-add (suc k) n m bs e =
    let more : m ≡ suc (k + n) = omega arith in
    let there : 8 + 8 * k ≡ 8 * suc k = omega arith in
    let far : drop (8 * k) (drop 8 bs) ≡ drop (8 * suc k) bs = drop-drop (8 * k) 8 bs ∙ ap (λ (j : ℕ). drop j bs) there in
    let same : k + n ≡ k + n = refl in
    ap (λ (j : ℕ). packed_into j bs) more
    ∙ ap (λ (l : List ℕ). byte_of bs ∷ l) (packed_into-add k n (k + n) (drop 8 bs) same ∙ ap (λ (l : List Bool). packed_into k (drop 8 bs) ++ packed_into n l) far)

length-packed_into : (k : ℕ) (bs : List Bool) → length (packed_into k bs) ≡ k
length-packed_into zero bs = refl
length-packed_into (suc k) bs = ap suc (length-packed_into k (drop 8 bs))

pub length-packed : (bs : List Bool) → length (packed bs) ≡ bytes_for (length bs)
length-packed bs = length-packed_into (bytes_for (length bs)) bs

packed_parts : (k : ℕ) (bs : List Bool) → 8 * k ≤ length bs → packed bs ≡ packed_into k bs ++ packed_into (bytes_for (length bs) - k) (drop (8 * k) bs)
packed_parts k bs many = packed_into-add k (bytes_for (length bs) - k) (bytes_for (length bs)) bs (omega arith)

-- the first bytes hold the first bits
pub take-packed : (k n : ℕ) (bs : List Bool) → n ≡ 8 * k → n ≤ length bs → take k (packed bs) ≡ packed (take n bs)
take-packed k n bs e many =
    let size : length (take n bs) ≡ n = length-take-le n bs many in
    let enough : 8 * k ≤ n = omega arith in
    let count : k ≡ bytes_for (length (take n bs)) = omega arith in
    ap (take k) (packed_parts k bs (omega arith))
    ∙ take_at (packed_into k bs) (packed_into (bytes_for (length bs) - k) (drop (8 * k) bs)) k (length-packed_into k bs)
    ∙ sym (packed_into-take k bs n enough)
    ∙ ap (λ (j : ℕ). packed_into j (take n bs)) count

-- and the others the others
pub drop-packed : (k n : ℕ) (bs : List Bool) → n ≡ 8 * k → n ≤ length bs → drop k (packed bs) ≡ packed (drop n bs)
drop-packed k n bs e many =
    let size : length (drop n bs) ≡ length bs - n = length-drop n bs in
    let count : bytes_for (length bs) - k ≡ bytes_for (length (drop n bs)) = omega arith in
    ap (drop k) (packed_parts k bs (omega arith))
    ∙ drop_at (packed_into k bs) (packed_into (bytes_for (length bs) - k) (drop (8 * k) bs)) k (length-packed_into k bs)
    ∙ ap (λ (j : ℕ). packed_into (bytes_for (length bs) - k) (drop j bs)) (sym e)
    ∙ ap (λ (j : ℕ). packed_into j (drop n bs)) count

length-bits : (bytes : List ℕ) → length (bits bytes) ≡ 8 * length bytes
length-bits [] = refl
length-bits (b ∷ bytes) = omega (arith, length-append (byte_bits b) (bits bytes), length-bits bytes)

-- whole bytes give their bits back
pub bits-packed : BitsPacked → (bs : List Bool) → length bs % 8 ≡ 0 → bits (packed bs) ≡ bs
bits-packed law bs whole =
    let count = (law bs).0 in
    let size = length-bits (packed bs) in
    let all : length (bits (packed bs)) ≤ length bs = omega arith in
    sym (take_all (length bs) (bits (packed bs)) all) ∙ (law bs).1

-- ---- marks of a version

pub first_within : (version : HeaderVersion) → first_limit ≤ block_limit version
first_within One = omega arith
first_within Two = omega arith

pub limit_within : (version : HeaderVersion) → block_limit version ≤ max_blocks
limit_within One = omega arith
limit_within Two = omega arith

pub length-resized_marks : (count : ℕ) (marks : List Bool) → length (resized_marks count marks) ≡ count
length-resized_marks count marks =
    omega (arith, length-append (take count marks) (replicate (count - length marks) false), length-take count marks, length-replicate (count - length marks) false)

-- marks of as many blocks as there have to be
pub resized_marks_same : (count : ℕ) (marks : List Bool) → length marks ≡ count → resized_marks count marks ≡ marks
resized_marks_same count marks size =
    let none : count - length marks ≡ 0 = omega arith in
    let all : length marks ≤ count = omega arith in
    ap (λ (n : ℕ). take count marks ++ replicate n false) none
    ∙ append-nil (take count marks)
    ∙ take_all count marks all

-- those of the first ones
pub resized_marks_front : (count : ℕ) (marks others : List Bool) → length marks ≡ count → resized_marks count (marks ++ others) ≡ marks
resized_marks_front count marks others size =
    let none : count - length (marks ++ others) ≡ 0 = omega (arith, length-append marks others) in
    ap (λ (n : ℕ). take count (marks ++ others) ++ replicate n false) none
    ∙ append-nil (take count (marks ++ others))
    ∙ take_at marks others count size

-- no marks, of fewer
pub resized_marks_none : (most count : ℕ) → count ≤ most → resized_marks count (replicate most false) ≡ replicate count false
resized_marks_none most count within =
    let size = length-replicate most false in
    let none : count - length (replicate most false) ≡ 0 = omega arith in
    ap (λ (n : ℕ). take count (replicate most false) ++ replicate n false) none
    ∙ append-nil (take count (replicate most false))
    ∙ take-replicate count most false within

-- the first ones of more are the first ones
take-resized_marks : (n count : ℕ) (marks : List Bool) → n ≤ count → take n (resized_marks count marks) ≡ resized_marks n marks
take-resized_marks n count marks within =
    let others = replicate (count - length marks) false in
    elim (cases_lt (length marks) n) [
      | inl less ↦
          let more : length marks + (n - length marks) ≡ n = omega arith in
          ap (λ (l : List Bool). take n (l ++ others)) (take_all count marks (omega arith))
          ∙ ap (λ (k : ℕ). take k (marks ++ others)) (sym more)
          ∙ take-append-add marks others (n - length marks)
          ∙ ap (λ (l : List Bool). marks ++ l) (take-replicate (n - length marks) (count - length marks) false (omega arith))
          ∙ ap (λ (l : List Bool). l ++ replicate (n - length marks) false) (sym (take_all n marks (omega arith)))
      | inr enough ↦
          let none : 0 ≡ n - length marks = omega arith in
          take-append-le n (take count marks) others (omega (arith, length-take count marks))
          ∙ take-take n count marks within
          ∙ sym (append-nil (take n marks))
          ∙ ap (λ (k : ℕ). take n marks ++ replicate k false) none
    ]

-- marks of all blocks that there can be
pub all_resized : (marks : List Bool) → length marks ≤ max_blocks → all_marks marks ≡ resized_marks max_blocks marks
all_resized marks few = ap (λ (l : List Bool). l ++ replicate (max_blocks - length marks) false) (sym (take_all max_blocks marks few))

-- the first ones of them are those of a version
pub first_resized : (version : HeaderVersion) (marks : List Bool) → length marks ≤ max_blocks
    → take first_limit (all_marks marks) ≡ take first_limit (resized_marks (block_limit version) marks)
first_resized One marks few =
    ap (take first_limit) (all_resized marks few)
    ∙ take-resized_marks first_limit max_blocks marks (omega arith)
    ∙ sym (take_all first_limit (resized_marks first_limit marks) (omega (arith, length-resized_marks first_limit marks)))
first_resized Two marks few = ap (take first_limit) (all_resized marks few)

-- the bytes of the marks of the first blocks
pub first_size : BitsPacked → (marks : List Bool) → first_limit ≤ length marks → length (packed (take first_limit marks)) ≡ 512
first_size law marks enough =
    let size : length (take first_limit marks) ≡ 4096 = length-take-le first_limit marks enough in
    omega (arith, (law (take first_limit marks)).0)

-- and of the others
pub others_size : BitsPacked → (version : HeaderVersion) (marks : List Bool) → length marks ≡ block_limit version
    → 622 + length (packed (drop first_limit marks)) ≡ header_size version
others_size law One marks size = omega (arith, (law (drop first_limit marks)).0, length-drop first_limit marks)
others_size law Two marks size = omega (arith, (law (drop first_limit marks)).0, length-drop first_limit marks)

-- ---- marks that are read

first_whole : (marks : List Bool) → first_limit ≤ length marks → length (take first_limit marks) % 8 ≡ 0
first_whole marks enough = let size : length (take first_limit marks) ≡ 4096 = length-take-le first_limit marks enough in omega arith

others_whole : (version : HeaderVersion) (marks : List Bool) → length marks ≡ block_limit version → length (drop first_limit marks) % 8 ≡ 0
others_whole One marks size = omega (arith, length-drop first_limit marks)
others_whole Two marks size = omega (arith, length-drop first_limit marks)

-- if the bytes of marks stand in front, they are read as these marks
pub marks_read : BitsPacked → (version : HeaderVersion) (marks : List Bool) (first others bytes : List ℕ) (n : ℕ) → length marks ≡ block_limit version
    → packed (take first_limit marks) ≡ first → packed (drop first_limit marks) ≡ others → take n bytes ≡ first ++ others
    → resized_marks (block_limit version) (bits bytes) ≡ marks
marks_read law version marks first others bytes n size e e' front =
    let enough : first_limit ≤ length marks = let least = first_within version in omega arith in
    let again : bits (first ++ others) ≡ marks =
    flat_map-append byte_bits first others
    ∙ ap (λ (l : List Bool). l ++ bits others) (ap bits (sym e) ∙ bits-packed law (take first_limit marks) (first_whole marks enough))
    ∙ ap (λ (l : List Bool). take first_limit marks ++ l) (ap bits (sym e') ∙ bits-packed law (drop first_limit marks) (others_whole version marks size))
    ∙ take-append-drop first_limit marks in
    let whole : bits bytes ≡ marks ++ bits (drop n bytes) =
    ap bits (sym (take-append-drop n bytes))
    ∙ flat_map-append byte_bits (take n bytes) (drop n bytes)
    ∙ ap (λ (l : List Bool). l ++ bits (drop n bytes)) (ap bits front ∙ again) in
    ap (resized_marks (block_limit version)) whole
    ∙ resized_marks_front (block_limit version) marks (bits (drop n bytes)) size
