use Rattle.std.proofs.Common.{◌≡◌, ◌∙◌, List, [], ◌∷◌, ap, sym}
use Rattle.std.specs.List.{All}
use Rattle.std.proofs.lemmas.List.Elements.{All-cons, All-nil}
use Rattle.oftp_command_line.specs.Line.{app_named}
use Rattle.oftp_command_line.specs.Told.{IsTold, app_told}
use Rattle.oftp_command_line.specs.declared.line.commands.Name.{Name}
use Rattle.oftp_command_line.specs.declared.line.table.Declaration.{Declaration}
use Rattle.oftp_command_line.proofs.line.table.declarations.Goals as goal

-- a declaration with its name, and those behind it
more : (d : Declaration) (others : List Declaration) (name : Name) → d.name ≡ name → app_told d.word.now d.arguments.now ≡ app_named name → All IsTold others
    → All IsTold (d ∷ others)
more d others name is told rest = All-cons IsTold d others (told ∙ sym (ap app_named is)) rest

pub returns-clause-told : goal.returns-clause-told
returns-clause-told c =
    let l29 : List Declaration = [] in
    let a29 : All IsTold l29 = All-nil IsTold in
    let l28 : List Declaration = c.declaration-28.result ∷ l29 in
    let a28 : All IsTold l28 = more c.declaration-28.result l29 _ c.declaration-28.ensures.name c.declaration-28.ensures.told a29 in
    let l27 : List Declaration = c.declaration-27.result ∷ l28 in
    let a27 : All IsTold l27 = more c.declaration-27.result l28 _ c.declaration-27.ensures.name c.declaration-27.ensures.told a28 in
    let l26 : List Declaration = c.declaration-26.result ∷ l27 in
    let a26 : All IsTold l26 = more c.declaration-26.result l27 _ c.declaration-26.ensures.name c.declaration-26.ensures.told a27 in
    let l25 : List Declaration = c.declaration-25.result ∷ l26 in
    let a25 : All IsTold l25 = more c.declaration-25.result l26 _ c.declaration-25.ensures.name c.declaration-25.ensures.told a26 in
    let l24 : List Declaration = c.declaration-24.result ∷ l25 in
    let a24 : All IsTold l24 = more c.declaration-24.result l25 _ c.declaration-24.ensures.name c.declaration-24.ensures.told a25 in
    let l23 : List Declaration = c.declaration-23.result ∷ l24 in
    let a23 : All IsTold l23 = more c.declaration-23.result l24 _ c.declaration-23.ensures.name c.declaration-23.ensures.told a24 in
    let l22 : List Declaration = c.declaration-22.result ∷ l23 in
    let a22 : All IsTold l22 = more c.declaration-22.result l23 _ c.declaration-22.ensures.name c.declaration-22.ensures.told a23 in
    let l21 : List Declaration = c.declaration-21.result ∷ l22 in
    let a21 : All IsTold l21 = more c.declaration-21.result l22 _ c.declaration-21.ensures.name c.declaration-21.ensures.told a22 in
    let l20 : List Declaration = c.declaration-20.result ∷ l21 in
    let a20 : All IsTold l20 = more c.declaration-20.result l21 _ c.declaration-20.ensures.name c.declaration-20.ensures.told a21 in
    let l19 : List Declaration = c.declaration-19.result ∷ l20 in
    let a19 : All IsTold l19 = more c.declaration-19.result l20 _ c.declaration-19.ensures.name c.declaration-19.ensures.told a20 in
    let l18 : List Declaration = c.declaration-18.result ∷ l19 in
    let a18 : All IsTold l18 = more c.declaration-18.result l19 _ c.declaration-18.ensures.name c.declaration-18.ensures.told a19 in
    let l17 : List Declaration = c.declaration-17.result ∷ l18 in
    let a17 : All IsTold l17 = more c.declaration-17.result l18 _ c.declaration-17.ensures.name c.declaration-17.ensures.told a18 in
    let l16 : List Declaration = c.declaration-16.result ∷ l17 in
    let a16 : All IsTold l16 = more c.declaration-16.result l17 _ c.declaration-16.ensures.name c.declaration-16.ensures.told a17 in
    let l15 : List Declaration = c.declaration-15.result ∷ l16 in
    let a15 : All IsTold l15 = more c.declaration-15.result l16 _ c.declaration-15.ensures.name c.declaration-15.ensures.told a16 in
    let l14 : List Declaration = c.declaration-14.result ∷ l15 in
    let a14 : All IsTold l14 = more c.declaration-14.result l15 _ c.declaration-14.ensures.name c.declaration-14.ensures.told a15 in
    let l13 : List Declaration = c.declaration-13.result ∷ l14 in
    let a13 : All IsTold l13 = more c.declaration-13.result l14 _ c.declaration-13.ensures.name c.declaration-13.ensures.told a14 in
    let l12 : List Declaration = c.declaration-12.result ∷ l13 in
    let a12 : All IsTold l12 = more c.declaration-12.result l13 _ c.declaration-12.ensures.name c.declaration-12.ensures.told a13 in
    let l11 : List Declaration = c.declaration-11.result ∷ l12 in
    let a11 : All IsTold l11 = more c.declaration-11.result l12 _ c.declaration-11.ensures.name c.declaration-11.ensures.told a12 in
    let l10 : List Declaration = c.declaration-10.result ∷ l11 in
    let a10 : All IsTold l10 = more c.declaration-10.result l11 _ c.declaration-10.ensures.name c.declaration-10.ensures.told a11 in
    let l9 : List Declaration = c.declaration-9.result ∷ l10 in
    let a9 : All IsTold l9 = more c.declaration-9.result l10 _ c.declaration-9.ensures.name c.declaration-9.ensures.told a10 in
    let l8 : List Declaration = c.declaration-8.result ∷ l9 in
    let a8 : All IsTold l8 = more c.declaration-8.result l9 _ c.declaration-8.ensures.name c.declaration-8.ensures.told a9 in
    let l7 : List Declaration = c.declaration-7.result ∷ l8 in
    let a7 : All IsTold l7 = more c.declaration-7.result l8 _ c.declaration-7.ensures.name c.declaration-7.ensures.told a8 in
    let l6 : List Declaration = c.declaration-6.result ∷ l7 in
    let a6 : All IsTold l6 = more c.declaration-6.result l7 _ c.declaration-6.ensures.name c.declaration-6.ensures.told a7 in
    let l5 : List Declaration = c.declaration-5.result ∷ l6 in
    let a5 : All IsTold l5 = more c.declaration-5.result l6 _ c.declaration-5.ensures.name c.declaration-5.ensures.told a6 in
    let l4 : List Declaration = c.declaration-4.result ∷ l5 in
    let a4 : All IsTold l4 = more c.declaration-4.result l5 _ c.declaration-4.ensures.name c.declaration-4.ensures.told a5 in
    let l3 : List Declaration = c.declaration-3.result ∷ l4 in
    let a3 : All IsTold l3 = more c.declaration-3.result l4 _ c.declaration-3.ensures.name c.declaration-3.ensures.told a4 in
    let l2 : List Declaration = c.declaration-2.result ∷ l3 in
    let a2 : All IsTold l2 = more c.declaration-2.result l3 _ c.declaration-2.ensures.name c.declaration-2.ensures.told a3 in
    let l1 : List Declaration = c.declaration.result ∷ l2 in
    let a1 : All IsTold l1 = more c.declaration.result l2 _ c.declaration.ensures.name c.declaration.ensures.told a2 in
    a1
