-- Public vocabulary: which refusals a call on a device or a file can answer.
use Rattle.fw_store.specs.declared.error.FileStoreError.{FileStoreError}
use Rattle.fw_store.specs.declared.error.FileStoreError.TheVariants.{StoreFault, BadSetup, OutOfMemory, BadFile}

-- of a store that is made
abbrev pub IsCreateRefusal : FileStoreError → Type 0
IsCreateRefusal StoreFault = Unit {0}
IsCreateRefusal BadSetup = Unit {0}
IsCreateRefusal OutOfMemory = ⊥
IsCreateRefusal BadFile = ⊥

-- of one that is reopened
abbrev pub IsReopenRefusal : FileStoreError → Type 0
IsReopenRefusal StoreFault = Unit {0}
IsReopenRefusal BadSetup = ⊥
IsReopenRefusal OutOfMemory = ⊥
IsReopenRefusal BadFile = Unit {0}
