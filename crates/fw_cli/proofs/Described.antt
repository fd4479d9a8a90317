-- Which options describe a meter.
use Rattle.std.proofs.Common.{◌≡◌, ℕ, ◌/◌, length, List, Result, Ok, Err, refl, sym, subst, arith}
use Rattle.std.specs.Prelude.{IsOk}
use Rattle.hex.specs.Hex.{decode_of}
use Rattle.hex.proofs.HexLemmas.{decode_of-ok}
use Rattle.fw_store.specs.Setup.{IsSetup}
use Rattle.fw_store.specs.declared.version.HeaderVersion.TheVariants.{Two}
use Rattle.fw_image.specs.Fresh.{fresh_meter}
use Rattle.fw_cli.specs.declared.answer.AnswerOptions.{AnswerOptions}
use Rattle.fw_cli.specs.Options.{DescribesOne, DescribesNone}
use Rattle.hex.specs.declared.error.FromHexError.{FromHexError}

-- what a text decodes to, if it does
bytes_in : (r : Result (List ℕ) FromHexError) → IsOk r → (bytes : List ℕ) × (r ≡ Ok bytes)
bytes_in (Ok bytes) h = (bytes, refl)
bytes_in (Err e) h = cc h

-- the image has half as many bytes as its text
half : (s bytes : List ℕ) → decode_of s ≡ Ok bytes → length bytes ≡ length s / 2
half s bytes spelled = let size = (decode_of-ok s bytes spelled).2 in omega (arith, size)

pub described : (o : AnswerOptions) (s : List ℕ) → s ≡ o.factory.now → IsOk (decode_of s)
    → ((bytes : List ℕ) → length bytes ≡ length o.factory.now / 2 → IsSetup Two o.block_size o.capacity bytes) → DescribesOne o
described o s same digits setup =
    let r = bytes_in (decode_of o.factory.now) (subst (λ (t : List ℕ). IsOk (decode_of t)) same digits) in (
      fresh_meter Two o.block_size o.capacity r.0,
      record { factory = r.0; spelled = r.1; setup = setup r.0 (half o.factory.now r.0 r.1); fresh = refl },
    )

-- its text is no hexadecimal
pub no_digits : (o : AnswerOptions) (s : List ℕ) → s ≡ o.factory.now → (IsOk (decode_of s) → ⊥) → DescribesNone o
no_digits o s same none meter d = none (subst (λ (t : List ℕ). IsOk (decode_of t)) (sym same) (rw d.spelled refl))

-- no store can be made with it
pub no_setup : (o : AnswerOptions) → ((bytes : List ℕ) → length bytes ≡ length o.factory.now / 2 → IsSetup Two o.block_size o.capacity bytes → ⊥) → DescribesNone o
no_setup o none meter d = none d.factory (half o.factory.now d.factory d.spelled) d.setup
