use Rattle.dt_tree.proofs.PathTexts.{is_path-path_text, path_names-path_text, are_names-path_names, path_text-path_names}
use Rattle.dt_tree.proofs.laws.path_texts_and_names.Goals as goal

pub returns-clause-lawful : goal.returns-clause-lawful
returns-clause-lawful c = is_path-path_text

pub returns-clause-names : goal.returns-clause-names
returns-clause-names c = path_names-path_text

pub returns-clause-named : goal.returns-clause-named
returns-clause-named c = are_names-path_names

pub returns-clause-text : goal.returns-clause-text
returns-clause-text c = path_text-path_names
