-- How far the text has come where a line may stand.
use Rattle.std.proofs.Common.{◌≡◌, ℕ, ◌≤◌, Bool, true, false, Option, Some, None, refl, sym, ap, ◌∙◌, arith}
use Rattle.sys_text.specs.declared.stage.Keyword.{Keyword}
use Rattle.sys_text.specs.declared.stage.Keyword.TheVariants as keywords
use Rattle.sys_text.specs.declared.stage.Stage.{Stage}
use Rattle.sys_text.specs.declared.stage.Stage.TheVariants.{Start, AfterClusters, AfterPager, AfterSyncreads, Images, InImage, Roots, Chans}
use Rattle.sys_text.specs.Rules.{may_stand, allowed}

-- the stages in their order
abbrev pub rank : Stage → ℕ
rank Start = 0
rank AfterClusters = 1
rank AfterPager = 2
rank AfterSyncreads = 3
rank Images = 4
rank InImage = 5
rank Roots = 6
rank Chans = 7

pub in_image : (stage : Stage) → rank stage ≡ 5 → stage ≡ InImage
in_image Start h = absurd (omega (arith, h))
in_image AfterClusters h = absurd (omega (arith, h))
in_image AfterPager h = absurd (omega (arith, h))
in_image AfterSyncreads h = absurd (omega (arith, h))
in_image Images h = absurd (omega (arith, h))
in_image InImage h = refl
in_image Roots h = absurd (omega (arith, h))
in_image Chans h = absurd (omega (arith, h))

-- where a line with this keyword may stand
abbrev pub StandsAt : ℕ → Keyword → Type 0
StandsAt r keywords.Clusters = r ≡ 0
StandsAt r keywords.Pager = 1 ≤ r
StandsAt r keywords.Syncreads = 2 ≤ r
StandsAt r keywords.Syncsteps = 3 ≤ r
StandsAt r keywords.Image = 4 ≤ r
StandsAt r keywords.Asm = 4 ≤ r
StandsAt r keywords.Elf = 4 ≤ r
StandsAt r keywords.Words = r ≡ 5
StandsAt r keywords.End = r ≡ 5
StandsAt r keywords.Root = 4 ≤ r
StandsAt r keywords.Chan = 6 ≤ r

pub stands_at : (stage : Stage) (keyword : Keyword) → may_stand stage keyword ≡ true → StandsAt (rank stage) keyword
stands_at Start keywords.Clusters h = refl
stands_at AfterClusters keywords.Clusters h = absurd cc
stands_at AfterPager keywords.Clusters h = absurd cc
stands_at AfterSyncreads keywords.Clusters h = absurd cc
stands_at Images keywords.Clusters h = absurd cc
stands_at InImage keywords.Clusters h = absurd cc
stands_at Roots keywords.Clusters h = absurd cc
stands_at Chans keywords.Clusters h = absurd cc
stands_at Start keywords.Pager h = absurd cc
stands_at AfterClusters keywords.Pager h = omega arith
stands_at AfterPager keywords.Pager h = absurd cc
stands_at AfterSyncreads keywords.Pager h = absurd cc
stands_at Images keywords.Pager h = absurd cc
stands_at InImage keywords.Pager h = absurd cc
stands_at Roots keywords.Pager h = absurd cc
stands_at Chans keywords.Pager h = absurd cc
stands_at Start keywords.Syncreads h = absurd cc
stands_at AfterClusters keywords.Syncreads h = absurd cc
stands_at AfterPager keywords.Syncreads h = omega arith
stands_at AfterSyncreads keywords.Syncreads h = absurd cc
stands_at Images keywords.Syncreads h = absurd cc
stands_at InImage keywords.Syncreads h = absurd cc
stands_at Roots keywords.Syncreads h = absurd cc
stands_at Chans keywords.Syncreads h = absurd cc
stands_at Start keywords.Syncsteps h = absurd cc
stands_at AfterClusters keywords.Syncsteps h = absurd cc
stands_at AfterPager keywords.Syncsteps h = absurd cc
stands_at AfterSyncreads keywords.Syncsteps h = omega arith
stands_at Images keywords.Syncsteps h = absurd cc
stands_at InImage keywords.Syncsteps h = absurd cc
stands_at Roots keywords.Syncsteps h = absurd cc
stands_at Chans keywords.Syncsteps h = absurd cc
stands_at Start keywords.Image h = absurd cc
stands_at AfterClusters keywords.Image h = absurd cc
stands_at AfterPager keywords.Image h = absurd cc
stands_at AfterSyncreads keywords.Image h = absurd cc
stands_at Images keywords.Image h = omega arith
stands_at InImage keywords.Image h = absurd cc
stands_at Roots keywords.Image h = absurd cc
stands_at Chans keywords.Image h = absurd cc
stands_at Start keywords.Asm h = absurd cc
stands_at AfterClusters keywords.Asm h = absurd cc
stands_at AfterPager keywords.Asm h = absurd cc
stands_at AfterSyncreads keywords.Asm h = absurd cc
stands_at Images keywords.Asm h = omega arith
stands_at InImage keywords.Asm h = absurd cc
stands_at Roots keywords.Asm h = absurd cc
stands_at Chans keywords.Asm h = absurd cc
stands_at Start keywords.Elf h = absurd cc
stands_at AfterClusters keywords.Elf h = absurd cc
stands_at AfterPager keywords.Elf h = absurd cc
stands_at AfterSyncreads keywords.Elf h = absurd cc
stands_at Images keywords.Elf h = omega arith
stands_at InImage keywords.Elf h = absurd cc
stands_at Roots keywords.Elf h = absurd cc
stands_at Chans keywords.Elf h = absurd cc
stands_at Start keywords.Words h = absurd cc
stands_at AfterClusters keywords.Words h = absurd cc
stands_at AfterPager keywords.Words h = absurd cc
stands_at AfterSyncreads keywords.Words h = absurd cc
stands_at Images keywords.Words h = absurd cc
stands_at InImage keywords.Words h = refl
stands_at Roots keywords.Words h = absurd cc
stands_at Chans keywords.Words h = absurd cc
stands_at Start keywords.End h = absurd cc
stands_at AfterClusters keywords.End h = absurd cc
stands_at AfterPager keywords.End h = absurd cc
stands_at AfterSyncreads keywords.End h = absurd cc
stands_at Images keywords.End h = absurd cc
stands_at InImage keywords.End h = refl
stands_at Roots keywords.End h = absurd cc
stands_at Chans keywords.End h = absurd cc
stands_at Start keywords.Root h = absurd cc
stands_at AfterClusters keywords.Root h = absurd cc
stands_at AfterPager keywords.Root h = absurd cc
stands_at AfterSyncreads keywords.Root h = absurd cc
stands_at Images keywords.Root h = omega arith
stands_at InImage keywords.Root h = absurd cc
stands_at Roots keywords.Root h = omega arith
stands_at Chans keywords.Root h = absurd cc
stands_at Start keywords.Chan h = absurd cc
stands_at AfterClusters keywords.Chan h = absurd cc
stands_at AfterPager keywords.Chan h = absurd cc
stands_at AfterSyncreads keywords.Chan h = absurd cc
stands_at Images keywords.Chan h = absurd cc
stands_at InImage keywords.Chan h = absurd cc
stands_at Roots keywords.Chan h = omega arith
stands_at Chans keywords.Chan h = omega arith

-- the keyword that a line has may stand here
pub stands : (stage : Stage) (o : Option Keyword) (keyword : Keyword) → allowed stage o ≡ Some keyword → may_stand stage keyword ≡ true
stands stage None keyword e = absurd cc
stands stage (Some other) keyword e = by_test (may_stand stage other) refl
  where
    by_test : (b : Bool) → may_stand stage other ≡ b → may_stand stage keyword ≡ true
    by_test true h = let f = rw h at e in let same : other ≡ keyword = cc in ap (may_stand stage) (sym same) ∙ h
    by_test false h = let f = rw h at e in absurd cc
