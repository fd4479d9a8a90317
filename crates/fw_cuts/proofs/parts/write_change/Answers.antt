use Rattle.std.proofs.Common.{◌≡◌, length, length-drop, refl, sym, subst, ◌∙◌, ap, arith}
use Rattle.fw_cuts.specs.Write.{Write, IsWrite}
use Rattle.fw_cuts.specs.Sectors.{IsOn, after_of}
use Rattle.fw_cuts.specs.Change.{IsChange}
use Rattle.fw_cuts.specs.declared.undo.write.Change.{Change}
use Rattle.fw_cuts.specs.declared.undo.write.Change.TheVariants.{FirstPart, LastPart}
use Rattle.fw_cuts.specs.Both.{On}
use Rattle.fw_cuts.specs.Cuts.{Seen, Goes, Writes, Cuts, IsSynced}
use Rattle.fw_cuts.specs.Private.{Lays}
use Rattle.fw_cuts.specs.declared.files.Part.TheVariants.{Store}
use Rattle.fw_cuts.proofs.Goings.{journal_kept, on_ok}
use Rattle.fw_cuts.proofs.Laying.{front_written, last_written, front_made, last_made}
use Rattle.fw_cuts.proofs.parts.write_change.Goals as goal

-- v is the write w, by its fields
module _ (v w : Write) (same : v ≡ w) (a b : Seen) (is : IsWrite w) (on : IsOn w a.held.store) where
  is_v : IsWrite v
  is_v = subst (λ (x : Write). IsWrite x) (sym same) is

  on_v : IsOn v a.held.store
  on_v = subst (λ (x : Write). IsOn x a.held.store) (sym same) on

  front_done : IsChange FirstPart w → On Store (Writes v.at v.after) a.held b.held → b.held.store ≡ after_of w a.held.store
  front_done change made =
      let one : IsChange FirstPart v = subst (λ (x : Write). IsChange FirstPart x) (sym same) change in
      made.0 ∙ front_made v a.held.store is_v on_v one.0 ∙ ap (λ (x : Write). after_of x a.held.store) same

  front_goes : Goes (On Store (Cuts v.at v.after)) a b → Goes (Lays w a.held.store) a b
  front_goes goes = subst (λ (x : Write). Goes (Lays x a.held.store) a b) same (front_written v a.held.store is_v on_v a b goes)

  last_done : IsChange LastPart w → On Store (Writes v.last_at v.last_after) a.held b.held → b.held.store ≡ after_of w a.held.store
  last_done change made =
      let one : IsChange LastPart v = subst (λ (x : Write). IsChange LastPart x) (sym same) change in
      made.0 ∙ last_made v a.held.store is_v on_v one.0 one.1 ∙ ap (λ (x : Write). after_of x a.held.store) same

  last_goes : IsChange LastPart w → IsSynced Store a → Goes (On Store (Cuts v.last_at v.last_after)) a b → Goes (Lays w a.held.store) a b
  last_goes change synced goes =
      let one : IsChange LastPart v = subst (λ (x : Write). IsChange LastPart x) (sym same) change in
      subst (λ (x : Write). Goes (Lays x a.held.store) a b) same
      (last_written v a.held.store is_v on_v a b goes synced refl (omega (arith, length-drop v.last_at a.held.store, ap length on_v.last, one.1)))

pub returns-in-FirstPart-clause-done : goal.returns-in-FirstPart-clause-done
returns-in-FirstPart-clause-done g c = λ honest.
    let i = c.write.inside in
    let a = g.F.StoreFiles.seen c.args.files.now in
    let b = g.F.StoreFiles.seen c.write_at.new.self in
    let w = c.args.write.now in
    let change : IsChange FirstPart w = subst (λ (x : Change). IsChange x w) c.in-FirstPart.is c.requires.change in
    on_ok c.write_at.result (On Store (Writes i.at i.after.now) a.held b.held) (b.held.store ≡ after_of w a.held.store)
    (λ made. front_done _ w c.write.view_is a b c.requires.write (c.requires.begins honest) change made) (c.write_at.ensures.done honest)

pub returns-in-FirstPart-clause-journal : goal.returns-in-FirstPart-clause-journal
returns-in-FirstPart-clause-journal g c = λ honest.
    let i = c.write.inside in
    journal_kept (Cuts i.at i.after.now) (g.F.StoreFiles.seen c.args.files.now) (g.F.StoreFiles.seen c.write_at.new.self) (c.write_at.ensures.goes honest)

pub returns-in-FirstPart-clause-goes : goal.returns-in-FirstPart-clause-goes
returns-in-FirstPart-clause-goes g c = λ honest lost synced.
    front_goes _ c.args.write.now c.write.view_is (g.F.StoreFiles.seen c.args.files.now) (g.F.StoreFiles.seen c.write_at.new.self)
    c.requires.write (c.requires.begins honest) (c.write_at.ensures.goes honest)

pub returns-in-LastPart-clause-done : goal.returns-in-LastPart-clause-done
returns-in-LastPart-clause-done g c = λ honest.
    let i = c.write.inside in
    let a = g.F.StoreFiles.seen c.args.files.now in
    let b = g.F.StoreFiles.seen c.write_at-in-LastPart.new.self in
    let w = c.args.write.now in
    let change : IsChange LastPart w = subst (λ (x : Change). IsChange x w) c.in-LastPart.is c.requires.change in
    on_ok c.write_at-in-LastPart.result (On Store (Writes i.last_at i.last_after.now) a.held b.held) (b.held.store ≡ after_of w a.held.store)
    (λ made. last_done _ w c.write.view_is a b c.requires.write (c.requires.begins honest) change made) (c.write_at-in-LastPart.ensures.done honest)

pub returns-in-LastPart-clause-journal : goal.returns-in-LastPart-clause-journal
returns-in-LastPart-clause-journal g c = λ honest.
    let i = c.write.inside in
    journal_kept (Cuts i.last_at i.last_after.now) (g.F.StoreFiles.seen c.args.files.now) (g.F.StoreFiles.seen c.write_at-in-LastPart.new.self)
    (c.write_at-in-LastPart.ensures.goes honest)

pub returns-in-LastPart-clause-goes : goal.returns-in-LastPart-clause-goes
returns-in-LastPart-clause-goes g c = λ honest lost synced.
    let w = c.args.write.now in
    let change : IsChange LastPart w = subst (λ (x : Change). IsChange x w) c.in-LastPart.is c.requires.change in
    last_goes _ w c.write.view_is (g.F.StoreFiles.seen c.args.files.now) (g.F.StoreFiles.seen c.write_at-in-LastPart.new.self)
    c.requires.write (c.requires.begins honest) change synced (c.write_at-in-LastPart.ensures.goes honest)

pub returns-in-More-clause-goes : goal.returns-in-More-clause-goes
returns-in-More-clause-goes g c = λ honest lost synced.
    let same = sym c.write.view_is in
    c.write_both.ensures.goes honest c.args.write.now (ap (λ (x : Write). x.at) same) (ap (λ (x : Write). x.after) same) (ap (λ (x : Write). x.last_at) same)
    (ap (λ (x : Write). x.last_after) same) c.requires.write (c.requires.begins honest) lost synced
