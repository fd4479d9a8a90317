use Rattle.std.proofs.Common.{rules, ◌≡◌, ℕ, ◌≤◌, List, None, length, sym, ap, subst, arith}
use Rattle.fw_book.specs.Changes.{opened, opening_refusal}
use Rattle.fw_ledger.specs.View.{source_of}
use Rattle.fw_kept.proofs.Books.{opening_short}
use Rattle.fw_kept.proofs.putting.opening_of.Goals as goal

pub returns-clause-can : goal.returns-clause-can
returns-clause-can c =
    let opens = (c.admitted_opens.ensures c.args.book.now c.args.campaign c.args.image.now c.args.meters.now).0 c.requires.admitted in
    let copied : c.in-Ok.meters.items ≡ c.args.meters.now = search rules in
    let few : length c.in-Ok.meters.items ≤ 256 = subst (λ (l : List ℕ). length l ≤ 256) (sym copied) opens.meters_end in
    record {
      can = (c.requires.opened, c.source.ensures.fits (omega (arith, opens.image_ends)));
      short = opening_short c.args.campaign c.args.release (source_of c.source.result) c.args.image.now c.in-Ok.meters.items c.source.ensures.short opens.image_ends few;
    }

pub returns-clause-makes : goal.returns-clause-makes
returns-clause-makes c =
    let copied : c.in-Ok.meters.items ≡ c.args.meters.now = search rules in
    record {
      image = c.args.image.now;
      is_image = c.source.ensures.is_image;
      admitted = subst (λ (l : List ℕ). opening_refusal c.args.book.now c.args.campaign c.args.image.now l ≡ None) (sym copied) c.requires.admitted;
      next_is = ap (λ (l : List ℕ). opened c.args.book.now c.args.campaign.serial c.args.release c.args.image.now l) (sym copied);
    }
