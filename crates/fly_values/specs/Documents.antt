-- What the messages of documents are as values (`core/identifier.proto`, `interface.proto`, `tasks.proto`, `workflow.proto`,
-- `errors.proto` of flyteidl). The bundle and the submission are this project's own.
use Rattle.std.specs.Prelude.{ℕ, Bool, List, codes}
use Rattle.serde_json.specs.Data.{Data}
use Rattle.fly_types.specs.declared.said.Said.{Said}
use Rattle.fly_types.specs.declared.said.Said.TheVariants as said
use Rattle.fly_docs.specs.declared.names.Identifier.{Identifier}
use Rattle.fly_docs.specs.declared.task.Task.{Task}
use Rattle.fly_docs.specs.declared.node.Node.{Node}
use Rattle.fly_docs.specs.declared.node.Target.{Target}
use Rattle.fly_docs.specs.declared.node.Target.TheVariants as targets
use Rattle.fly_docs.specs.declared.workflow.Workflow.{Workflow}
use Rattle.fly_docs.specs.declared.workflow.Bundle.{Bundle}
use Rattle.fly_docs.specs.declared.submission.Submission.{Submission}
use Rattle.fly_docs.specs.Form.{most_retries}
use Rattle.fly_values.specs.Fields.{members_in, field, text_value, truth_value, is_called, list_value, texts_value}
use Rattle.fly_values.specs.Scalars.{whole_value, timeout_value}
use Rattle.fly_values.specs.Types.{interface_value}
use Rattle.fly_values.specs.Literals.{literal_map_value}
use Rattle.fly_values.specs.Bindings.{binding_value}

-- Identifier
unfoldable pub identifier_value : Data → Identifier
identifier_value d = record {
  project = text_value (field (codes "project") (members_in d));
  domain = text_value (field (codes "domain") (members_in d));
  name = text_value (field (codes "name") (members_in d));
  version = text_value (field (codes "version") (members_in d));
}

-- RetryStrategy
unfoldable pub retries_value : Data → ℕ
retries_value d = whole_value most_retries (field (codes "retries") (members_in d))

-- TaskTemplate, with its TaskMetadata and Container
unfoldable pub task_value : Data → Task
task_value d =
    let metadata = members_in (field (codes "metadata") (members_in d)) in
    let container = members_in (field (codes "container") (members_in d)) in record {
      id = identifier_value (field (codes "id") (members_in d));
      cached = truth_value (field (codes "discoverable") metadata);
      serializable = truth_value (field (codes "cacheSerializable") metadata);
      cache_version = text_value (field (codes "discoveryVersion") metadata);
      timeout_ms = timeout_value (field (codes "timeout") metadata);
      retries = retries_value (field (codes "retries") metadata);
      interface = interface_value (field (codes "interface") (members_in d));
      command = texts_value (field (codes "command") container);
      args = texts_value (field (codes "args") container);
    }

-- TaskNode
unfoldable pub task_node_value : Data → Target
task_node_value d = targets.Task (identifier_value (field (codes "referenceId") (members_in d)))

-- Node, with its NodeMetadata
unfoldable pub node_value : Data → Node
node_value d =
    let metadata = members_in (field (codes "metadata") (members_in d)) in record {
      id = text_value (field (codes "id") (members_in d));
      timeout_ms = timeout_value (field (codes "timeout") metadata);
      retries = retries_value (field (codes "retries") metadata);
      inputs = list_value binding_value (field (codes "inputs") (members_in d));
      upstream = texts_value (field (codes "upstreamNodeIds") (members_in d));
      target = task_node_value (field (codes "taskNode") (members_in d));
    }

-- WorkflowMetadata: whether the nodes that can still run do after a node fails
unfoldable pub fail_late_value : Data → Bool
fail_late_value d =
    is_called (codes "FAIL_AFTER_EXECUTABLE_NODES_COMPLETE") 1 (field (codes "onFailure") (members_in d))

-- WorkflowTemplate
unfoldable pub workflow_value : Data → Workflow
workflow_value d = record {
  id = identifier_value (field (codes "id") (members_in d));
  fail_late = fail_late_value (field (codes "metadata") (members_in d));
  interface = interface_value (field (codes "interface") (members_in d));
  nodes = list_value node_value (field (codes "nodes") (members_in d));
  outputs = list_value binding_value (field (codes "outputs") (members_in d));
}

-- the bundle
unfoldable pub bundle_value : Data → Bundle
bundle_value d = record {
  tasks = list_value task_value (field (codes "tasks") (members_in d));
  workflows = list_value workflow_value (field (codes "workflows") (members_in d));
  primary = identifier_value (field (codes "primary") (members_in d));
}

-- the submission, and a file of them
unfoldable pub submission_value : Data → Submission
submission_value d = record {
  name = text_value (field (codes "name") (members_in d));
  inputs = literal_map_value (field (codes "inputs") (members_in d));
}

abbrev pub submissions_value : Data → List Submission
submissions_value d = list_value submission_value d

-- ContainerError
unfoldable pub container_error_value : Data → Said
container_error_value d =
    said.Error (text_value (field (codes "code") (members_in d))) (text_value (field (codes "message") (members_in d)))
    (is_called (codes "RECOVERABLE") 1 (field (codes "kind") (members_in d)))

-- ErrorDocument
unfoldable pub error_document_value : Data → Said
error_document_value d = container_error_value (field (codes "error") (members_in d))
