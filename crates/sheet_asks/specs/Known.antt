-- Calls of JavaScript, of the DOM and of jQuery that give no class, no attribute that a selector can ask for, and no element.
use Rattle.std.specs.Prelude.{ℕ, List, [], ◌∷◌, ◌++◌, flat_map, codes}
use Rattle.html_tokens.specs.Words.{words}

-- constructors, with or without `new`
abbrev pub constructor_names : List (List ℕ)
constructor_names =
    codes "AbortController Array ArrayBuffer BigInt Blob Boolean Callbacks CustomEvent DOMParser DOMRect DataView Date"
    ∷ codes "DateTimeFormat Deferred Error Event EventSource File FileReader Float32Array FocusEvent FormData Headers ImageData"
    ∷ codes "InputEvent IntersectionObserver KeyboardEvent MessageChannel MouseEvent MutationObserver Number NumberFormat Object"
    ∷ codes "Path2D PluralRules PointerEvent Promise Proxy RangeError ReferenceError RegExp Request ResizeObserver Response Set"
    ∷ codes "String Symbol SyntaxError TypeError UIEvent URL URLSearchParams Uint32Array Uint8Array WeakMap WeakSet WebSocket Worker"
    ∷ codes "XMLHttpRequest"
    ∷ []

-- texts and patterns
abbrev pub text_names : List (List ℕ)
text_names =
    codes "at charAt charCodeAt codePointAt concat endsWith exec fromCharCode fromCodePoint includes indexOf lastIndexOf"
    ∷ codes "localeCompare match matchAll normalize padEnd padStart repeat replace search slice split startsWith substr substring"
    ∷ codes "test toLocaleLowerCase toLocaleUpperCase toLowerCase toString toUpperCase trim trimEnd trimLeft trimRight trimStart"
    ∷ codes "valueOf"
    ∷ []

-- lists, sets and tables
abbrev pub list_names : List (List ℕ)
list_names =
    codes "delete difference entries every fill filter find findIndex findLast findLastIndex flat flatMap forEach from fromEntries"
    ∷ codes "get has intersection isArray join keys map of pop push reduce reduceRight reverse shift some sort splice subarray"
    ∷ codes "toReversed toSorted toSpliced union unshift values"
    ∷ []

-- numbers
abbrev pub number_names : List (List ℕ)
number_names =
    codes "abs acos asin atan atan2 cbrt ceil cos exp floor hypot isFinite isInteger isNaN isSafeInteger log10 log2 max min"
    ∷ codes "parseFloat parseInt pow random round sign sin sqrt tan toExponential toFixed toPrecision trunc"
    ∷ []

-- dates and formats
abbrev pub date_names : List (List ℕ)
date_names =
    codes "UTC formatToParts getDate getDay getFullYear getHours getMilliseconds getMinutes getMonth getSeconds getTime"
    ∷ codes "getTimezoneOffset getUTCDate getUTCDay getUTCFullYear getUTCHours getUTCMinutes getUTCMonth getUTCSeconds now setDate"
    ∷ codes "setFullYear setHours setMilliseconds setMinutes setMonth setSeconds setTime toDateString toISOString toLocaleDateString"
    ∷ codes "toLocaleString toLocaleTimeString toTimeString toUTCString"
    ∷ []

-- objects and functions
abbrev pub object_names : List (List ℕ)
object_names =
    codes "apply assign call defineProperties defineProperty freeze getOwnPropertyDescriptor getOwnPropertyDescriptors"
    ∷ codes "getOwnPropertyNames getOwnPropertySymbols getPrototypeOf hasOwn hasOwnProperty is parse setPrototypeOf stringify"
    ∷ codes "structuredClone"
    ∷ []

-- promises, requests and files
abbrev pub request_names : List (List ℕ)
request_names =
    codes "abort ajax ajaxComplete ajaxError ajaxPrefilter ajaxSend ajaxSetup ajaxStart ajaxStop ajaxSuccess all allSettled always"
    ∷ codes "any arrayBuffer blob catch createObjectURL done fail fetch finally formData getAll getAllResponseHeaders getJSON"
    ∷ codes "getResponseHeader json overrideMimeType param parseJSON parseXML pipe post postMessage promise race readAsArrayBuffer"
    ∷ codes "readAsDataURL readAsText reject resolve revokeObjectURL send sendBeacon serialize serializeArray setRequestHeader"
    ∷ codes "statusCode terminate then when"
    ∷ []

-- texts as codes
abbrev pub code_names : List (List ℕ)
code_names =
    codes "atob btoa decode decodeURI decodeURIComponent encode encodeURI encodeURIComponent escape escapeSelector getRandomValues"
    ∷ codes "randomUUID unescape"
    ∷ []

-- what runs later
abbrev pub time_names : List (List ℕ)
time_names =
    codes "cancelAnimationFrame cancelIdleCallback clearImmediate clearInterval clearQueue clearTimeout delay dequeue finish queue"
    ∷ codes "queueMicrotask requestAnimationFrame requestIdleCallback setImmediate setInterval setTimeout stop"
    ∷ []

-- events and observers
abbrev pub event_names : List (List ℕ)
event_names =
    codes "addEventListener addListener bind blur change click composedPath contextmenu createEvent dblclick delegate die"
    ∷ codes "disconnect dispatchEvent error focus focusin focusout getModifierState holdReady hover initCustomEvent initEvent"
    ∷ codes "initKeyboardEvent initMouseEvent isDefaultPrevented isImmediatePropagationStopped isPropagationStopped keydown keypress"
    ∷ codes "keyup live mousedown mouseenter mouseleave mousemove mouseout mouseover mouseup observe off on one preventDefault proxy"
    ∷ codes "ready releasePointerCapture removeEventListener removeListener resize scroll select setPointerCapture"
    ∷ codes "stopImmediatePropagation stopPropagation submit takeRecords trigger triggerHandler unbind undelegate unload unobserve"
    ∷ []

-- what looks for elements and asks about them
abbrev pub look_names : List (List ℕ)
look_names =
    codes "$ addBack andSelf children closest contains contents createTreeWalker each elementFromPoint elementsFromPoint end eq"
    ∷ codes "evaluate even first getAttribute getAttributeNS getAttributeNames getElementById getElementsByClassName"
    ∷ codes "getElementsByName getElementsByTagName getElementsByTagNameNS getRootNode grep hasAttribute hasAttributes hasChildNodes"
    ∷ codes "hasClass hasData hasFocus inArray index isEqualNode isSameNode item jQuery last makeArray matches merge namedItem next"
    ∷ codes "nextAll nextNode nextUntil not odd offsetParent parent parents parentsUntil prev prevAll prevUntil querySelector"
    ∷ codes "querySelectorAll siblings size toArray unique uniqueSort"
    ∷ []

-- what takes away, and what makes or changes texts
abbrev pub taking_names : List (List ℕ)
taking_names =
    codes "createAttribute createComment createDocumentFragment createTextNode data deleteCell deleteContents deleteRow deleteTFoot"
    ∷ codes "deleteTHead detach empty insertAdjacentText remove removeAttr removeAttribute removeAttributeNS removeChild removeClass"
    ∷ codes "removeData removeProp splitText text"
    ∷ []

-- style, size and place
abbrev pub shape_names : List (List ℕ)
shape_names =
    codes "css deleteRule fadeIn fadeOut fadeTo fadeToggle getBBox getBoundingClientRect getCTM getClientRects getComputedStyle"
    ∷ codes "getPropertyValue getScreenCTM height hide innerHeight innerWidth insertRule matchMedia offset outerHeight outerWidth"
    ∷ codes "position removeProperty scrollBy scrollIntoView scrollIntoViewIfNeeded scrollLeft scrollTo scrollTop setProperty show"
    ∷ codes "slideDown slideToggle slideUp supports toggle width"
    ∷ []

-- forms, selections and media
abbrev pub form_names : List (List ℕ)
form_names =
    codes "addRange canPlayType checkValidity cloneRange collapseToEnd collapseToStart createRange exitFullscreen getRangeAt"
    ∷ codes "getSelection hidePopover pause play removeAllRanges removeRange reportValidity requestFullscreen requestSubmit reset"
    ∷ codes "selectNode selectNodeContents setCustomValidity setEnd setEndAfter setEndBefore setRangeText setSelectionRange setStart"
    ∷ codes "setStartAfter setStartBefore showModal showPicker showPopover stepDown stepUp togglePopover"
    ∷ []

-- the window, its history and its stores
abbrev pub window_names : List (List ℕ)
window_names =
    codes "alert back clearData confirm forward getData getItem key moveTo print prompt pushState readText reload removeItem"
    ∷ codes "replaceState requestPermission setDragImage setItem writeText"
    ∷ []

-- drawing
abbrev pub canvas_names : List (List ℕ)
canvas_names =
    codes "addColorStop arc arcTo beginPath bezierCurveTo clearRect clip closePath createImageData createLinearGradient"
    ∷ codes "createPattern createRadialGradient drawImage fillRect fillText getContext getImageData lineTo measureText putImageData"
    ∷ codes "quadraticCurveTo resetTransform setLineDash setTransform stroke strokeRect strokeText toBlob toDataURL"
    ∷ []

-- messages for whoever writes the script
abbrev pub log_names : List (List ℕ)
log_names =
    codes "assert debug dir groupCollapsed groupEnd log time timeEnd warn"
    ∷ []

-- helpers of jQuery
abbrev pub helper_names : List (List ℕ)
helper_names =
    codes "extend isEmptyObject isFunction isNumeric isPlainObject isWindow isXMLDoc noConflict noop type"
    ∷ []

abbrev pub known_texts : List (List ℕ)
known_texts =
    constructor_names ++ text_names ++ list_names ++ number_names ++ date_names ++ object_names ++ request_names ++ code_names ++ time_names ++ event_names ++ look_names ++ taking_names ++ shape_names ++ form_names ++ window_names ++ canvas_names ++ log_names ++ helper_names

-- all of them
unfoldable pub known_calls : List (List ℕ)
known_calls = flat_map words known_texts
