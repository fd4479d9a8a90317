-- Public vocabulary: a capture as the log of a head end.
use Rattle.std.specs.Prelude.{◌≡◌, ℕ, List, []}
use Rattle.std.specs.declared.net.socket_addr.SocketAddr.{SocketAddr}
use Rattle.fw_audit.specs.Log.{Item}
use Rattle.fw_evidence.specs.Captures.{IsLogOf, IsNoLog}
use Rattle.fw_evidence.specs.declared.error.LogError.{LogError}
use Rattle.fw_evidence.specs.declared.error.Mark.{Mark}
use Rattle.fw_evidence.specs.declared.site.Side.TheVariants as sides
use Rattle.fw_evidence.specs.declared.site.Site.{Site}

-- a head end at its address: nobody is beside it
pub record IsHeadSite (at : SocketAddr) (site : Site) : Type 0 where
  pub side : site.side ≡ sides.Head
  pub own : site.at ≡ at
  pub alone : site.others.now ≡ []

-- A capture is this log of the head end at an address: all its records say just these items, in their order, each in the record of its mark.
pub record IsHeadLogOf (at : SocketAddr) (capture : List ℕ) (log : List Item) (marks : List Mark) : Type 0 where
  pub site : Site
  pub head : IsHeadSite at site
  pub reads : IsLogOf site capture log marks

-- Why a capture is none.
pub record IsNoHeadLog (at : SocketAddr) (capture : List ℕ) (error : LogError) : Type 0 where
  pub site : Site
  pub head : IsHeadSite at site
  pub why : IsNoLog site capture error
