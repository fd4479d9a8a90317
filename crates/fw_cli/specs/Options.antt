-- Public vocabulary: the meter that the options of `answer` describe.
use Rattle.std.specs.Prelude.{◌≡◌, ℕ, List, Ok}
use Rattle.hex.specs.Hex.{decode_of}
use Rattle.fw_store.specs.Setup.{IsSetup}
use Rattle.fw_store.specs.declared.version.HeaderVersion.TheVariants.{Two}
use Rattle.fw_image.specs.Meter.{Meter}
use Rattle.fw_image.specs.Fresh.{fresh_meter}
use Rattle.fw_cli.specs.declared.answer.AnswerOptions.{AnswerOptions}

-- The options describe a meter: it is new, with a header of version 2, and runs the factory image that the hexadecimal digits spell.
pub record Describes (options : AnswerOptions) (meter : Meter) : Type 0 where
  pub factory : List ℕ
  pub spelled : decode_of options.factory.now ≡ Ok factory
  pub setup : IsSetup Two options.block_size options.capacity factory
  pub fresh : meter ≡ fresh_meter Two options.block_size options.capacity factory

-- the options describe a meter
abbrev pub DescribesOne : AnswerOptions → Type 0
DescribesOne options = (meter : Meter) × Describes options meter

-- the options describe no meter
abbrev pub DescribesNone : AnswerOptions → Type 0
DescribesNone options = (meter : Meter) → ¬ Describes options meter
