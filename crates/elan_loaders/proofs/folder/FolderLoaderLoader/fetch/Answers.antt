use Rattle.std.proofs.Common.{◌≡◌, sym, ◌∙◌, ap, ◌++◌, drop, length}
use Rattle.std.proofs.lemmas.List.{take-append-drop}
use Rattle.elan_loaders.proofs.folder.FolderLoaderLoader.fetch.Goals as goal

pub returns-in-Found-clause-answers : goal.returns-in-Found-clause-answers
returns-in-Found-clause-answers g c =
    let before = c.args.into.now.items in
    let after = c.take_file-answer.new.into.items in
    let whole : after ≡ before ++ drop (length before) after =
    sym (take-append-drop (length before) after) ∙ ap (λ front. front ++ drop (length before) after) c.take_file-answer.ensures in
    rw c.in-Found.is (drop (length before) after, whole, tt)
